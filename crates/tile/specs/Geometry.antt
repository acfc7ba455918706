-- A tile's numbers, as definitions speak of them: what each is stands at the fields of the Rust `Tile`. Assumes nothing.
use Rattle.std.specs.Prelude.{ℕ}

pub record Geometry : Type 0 where
  pub side : ℕ
  pub block : ℕ
  pub edge : ℕ
  pub step : ℕ
  pub wide : ℕ
  pub high : ℕ
  pub stride : ℕ
  pub offset : ℕ
  pub left : ℕ
  pub right : ℕ
  pub top : ℕ
  pub bottom : ℕ

-- the twelve numbers in the order of `Tile`'s fields
abbrev pub geometry_of : ℕ → ℕ → ℕ → ℕ → ℕ → ℕ → ℕ → ℕ → ℕ → ℕ → ℕ → ℕ → Geometry
geometry_of side block edge step wide high stride offset left right top bottom =
    record { side = side; block = block; edge = edge; step = step; wide = wide; high = high; stride = stride; offset = offset; left = left; right = right; top = top; bottom = bottom }
