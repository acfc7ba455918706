-- Smoothing block by block: the sampled cells of a block by row and column, and the loops as code runs them. Assumes nothing.
use Rattle.std.proofs.Common.{◌≡◌, ◌≢◌, refl, sym, ap, ◌∙◌, List, [], ℕ, ◌+◌, ◌-◌, ◌*◌, ◌/◌, ◌%◌, ◌≤◌, ◌<◌, min, arith, ℤ, pos, length, length-set, get_or, set, get_or-set_same, get_or-set_other}
use Rattle.std.proofs.Math.Nat.{add-mod_right}
use Rattle.levels.specs.declared.Mv.{Mv}
use Rattle.loops.proofs.Counting.{is_or}
use Rattle.loops.specs.Over.{span, span_by}
use Rattle.loops.proofs.Turns.{turned, ended, turned_by, ended_by}
use Rattle.loops.proofs.Same.{counted, over_same, turn_below}
use Rattle.mv.specs.Sums.{smoothed_of}
use Rattle.store.specs.Store.{Store, Kind, field_mvs, field_refs, byte_cell, vec, wr}
use Rattle.store.specs.Program.{run, snapshot, read_own}
use Rattle.tile.specs.Geometry.{Geometry}
use Rattle.tile.specs.Layout.{field_at}
use Rattle.tile.specs.Owner.{owns}
use Rattle.tile.specs.Sound.{Sound, Sample}
use Rattle.tile.proofs.Owner.{own_cell, mine_in}
use Rattle.tile.proofs.Passes.{Sampled}
use Rattle.tile.proofs.Places.{sides, block_some, step_some}
use Rattle.field.specs.Field.{as_byte, around, smooth_cell, smooth_block, smoothen}
use Rattle.field.specs.declared.Field.{Field}
use Rattle.field.specs.Lent.{IsSameField, vector_in, stored}
use Rattle.field.proofs.Borrows.{same_field, same_after}
use Rattle.smooth.specs.Code.{InBlock, AreRows, mean_in}
use Rattle.field.proofs.Owned.{around_same}

-- eight rows of eight means hold the values of the rows before a, and of row a before column b
pub record Lined (f : ℕ → ℕ → Mv) (cols a b : ℕ) (means : List (List Mv)) : Type 0 where
  pub shape : AreRows means
  pub rows : (i j : ℕ) → i < a → j < cols → mean_in means i j ≡ f i j
  pub row : (j : ℕ) → j < b → mean_in means a j ≡ f a j

module _ (f : ℕ → ℕ → Mv) (cols : ℕ) (few : cols ≤ 8) where
  pub line_start : (means : List (List Mv)) → AreRows means → Lined f cols 0 0 means
  line_start means h = record { shape = h; rows = λ i j l m. absurd (omega arith); row = λ j l. absurd (omega arith) }

  pub line_next : (a b : ℕ) (means : List (List Mv)) (v : Mv) → a < 8 → b < cols → v ≡ f a b → Lined f cols a b means → Lined f cols a (b + 1) (set means a (set (get_or means a []) b v))
  line_next a b means v p q e h =
      let new = set means a (set (get_or means a []) b v) in
      let same : get_or new a [] ≡ set (get_or means a []) b v = get_or-set_same means a (set (get_or means a []) b v) [] (omega (arith, h.shape.long)) in
      let other : (i : ℕ) → i ≢ a → get_or new i [] ≡ get_or means i [] = λ i z. get_or-set_other means a i (set (get_or means a []) b v) [] z in
      record {
        shape = record {
          long = length-set means a (set (get_or means a []) b v) ∙ h.shape.long;
          wide = λ i l. is_or i a (λ z. rw (z, same) (length-set (get_or means a []) b v ∙ h.shape.wide a p)) (λ z. rw (other i z) (h.shape.wide i l));
        };
        rows = λ i j l m. rw (other i (λ z. omega arith)) (h.rows i j l m);
        row = λ j l.
            rw same
            (is_or j b
            (λ z. rw z (get_or-set_same (get_or means a []) b v (vec (pos 0) (pos 0)) (omega (arith, h.shape.wide a p)) ∙ e))
            (λ z. get_or-set_other (get_or means a []) b j v (vec (pos 0) (pos 0)) z ∙ h.row j (omega arith)));
      }

  pub line_row : (a b : ℕ) (means : List (List Mv)) → cols ≤ b → Lined f cols a b means → Lined f cols (a + 1) 0 means
  line_row a b means p h =
      record {
        shape = h.shape;
        rows = λ i j l m. is_or i a (λ z. rw z (h.row j (omega arith))) (λ z. h.rows i j (omega arith) m);
        row = λ j l. absurd (omega arith);
      }

-- a block's loops, turns counted
block_by : (t : Geometry) (delta : ℤ) (was : Kind → ℕ → Mv) (sx xend sy rows cols : ℕ) → rows ≡ (min t.bottom (sy + t.block) - sy + (t.step - 1)) / t.step → cols ≡ (xend - sx + (t.step - 1)) / t.step → (s : Store)
    → run (owns t) (smooth_block t delta sx xend sy was) s ≡ span (λ a. span (λ b. run (owns t) (smooth_cell t delta was sx xend (sy + a * t.step) (sx + b * t.step))) 0 cols) 0 rows s
unfolding smooth_block span_by span
block_by t delta was sx xend sy rows cols re ce s =
    rw (re, ce)
    (counted t.step sy (min t.bottom (sy + t.block)) (λ y. span_by t.step (λ x. run (owns t) (smooth_cell t delta was sx xend y x)) sx xend) s
    ∙ over_same 1 ((min t.bottom (sy + t.block) - sy + (t.step - 1)) / t.step - 0) 0
    (λ a. span_by t.step (λ x. run (owns t) (smooth_cell t delta was sx xend (sy + a * t.step) x)) sx xend)
    (λ a. span (λ b. run (owns t) (smooth_cell t delta was sx xend (sy + a * t.step) (sx + b * t.step))) 0 ((xend - sx + (t.step - 1)) / t.step))
    (λ j l u. counted t.step sx xend (λ x. run (owns t) (smooth_cell t delta was sx xend (sy + (0 + j * 1) * t.step) x)) u) s)

module _ (t : Geometry) (k : Sound t) (sx xend sy rows cols : ℕ) (h : InBlock t sx xend sy rows cols) where
  -- at most 8 × 8
  pub few_rows : rows ≤ 8
  few_rows =
      rw h.row_count (sides t k (λ B s. B ≤ 8 * s → (min t.bottom (sy + B) - sy + (s - 1)) / s ≤ 8) (λ q. omega arith) (λ q. omega arith) (λ q. omega arith) (λ q. omega arith) k.few)

  pub few_cols : cols ≤ 8
  few_cols =
      rw (h.col_count, h.end) (sides t k (λ B s. B ≤ 8 * s → (min t.right (sx + B) - sx + (s - 1)) / s ≤ 8) (λ q. omega arith) (λ q. omega arith) (λ q. omega arith) (λ q. omega arith) k.few)

  -- cell (a, b) of the block is a sampled one
  pub block_sample : (a b : ℕ) → a < rows → b < cols → Sample t sx xend (sy + a * t.step) (sx + b * t.step)
  block_sample a b p q =
      let y : sy + a * t.step < min t.bottom (sy + t.block) = turn_below t.step sy (min t.bottom (sy + t.block)) a (step_some t k) (rw h.row_count at p) in
      let x : sx + b * t.step < xend = turn_below t.step sx xend b (step_some t k) (rw h.col_count at q) in
      record {
        cell = record { top = omega (arith, h.top); bottom = omega arith; left = omega (arith, h.left); right = omega (arith, h.end) };
        left = h.left;
        from = omega arith;
        to = x;
        end = h.end;
        row = sides t k (λ B s. sy % B ≡ 0 → (sy + a * s) % s ≡ 0) (λ q. omega arith) (λ q. omega arith) (λ q. omega arith) (λ q. omega arith) h.on_row;
        col = sides t k (λ B s. sx % B ≡ 0 → (sx + b * s) % s ≡ 0) (λ q. omega arith) (λ q. omega arith) (λ q. omega arith) (λ q. omega arith) h.on_col;
      }

-- a cell's turn, a row's
module _ (t : Geometry) (delta : ℤ) (sx xend sy cols : ℕ) (was : Kind → ℕ → Mv) where
  abbrev pub mean_put : ℕ → ℕ → Store → Store
  mean_put a b s = run (owns t) (smooth_cell t delta was sx xend (sy + a * t.step) (sx + b * t.step)) s

  abbrev pub row_put : ℕ → Store → Store
  row_put a s = span (mean_put a) 0 cols s

-- n is l with v and r in place i
abbrev pub Set : Field → Field → ℕ → Mv → ℕ → Type 0
Set n l i v r = (s : Store) → stored s n ≡ wr (wr (stored s l) field_mvs i v) field_refs i (byte_cell r)

pub set_at : (n l : Field) (i j : ℕ) (v : Mv) (r q : ℕ) → i ≡ j → r ≡ q → Set n l i v r → Set n l j v q
set_at n l i j v r q a b p s = p s ∙ rw (a, b)

-- the loops that put the means: the list holds the means of the cells as they were
module _ (t : Geometry) (delta : ℤ) (sx xend sy rows cols : ℕ) (means : List (List Mv)) where
  abbrev pub Means : (Kind → ℕ → Mv) → Type 0
  Means was = (a b : ℕ) → a < rows → b < cols → mean_in means a b ≡ smoothed_of (around t (was field_mvs) sx xend (sy + a * t.step) (sx + b * t.step))

  pub record AtCol (a b : ℕ) (l m : Field) : Type 0 where
    pub like : IsSameField l m
    pub left : (was : Kind → ℕ → Mv) → Means was → (s : Store) → span (mean_put t delta sx xend sy cols was a) b cols (stored s l) ≡ row_put t delta sx xend sy cols was a (stored s m)

  pub record AtRow (a : ℕ) (l m : Field) : Type 0 where
    pub like : IsSameField l m
    pub left : (was : Kind → ℕ → Mv) → Means was → (s : Store) → span (row_put t delta sx xend sy cols was) a rows (stored s l) ≡ span (row_put t delta sx xend sy cols was) 0 rows (stored s m)

  pub row_holds : (l : Field) → AtRow 0 l l
  row_holds l = record { like = same_field l; left = λ was q s. refl }

  pub col_holds : (a : ℕ) (l : Field) → AtCol a 0 l l
  col_holds a l = record { like = same_field l; left = λ was q s. refl }

  module _ (k : Sound t) (h : InBlock t sx xend sy rows cols) where
    mean_on : (was : Kind → ℕ → Mv) (a b : ℕ) → a < rows → b < cols → (l n : Field) (v : Mv) → v ≡ smoothed_of (around t (was field_mvs) sx xend (sy + a * t.step) (sx + b * t.step))
        → Set n l (field_at t (sy + a * t.step) (sx + b * t.step)) v (as_byte delta) → (s : Store) → stored s n ≡ mean_put t delta sx xend sy cols was a b (stored s l)
    unfolding smooth_cell
    mean_on was a b p q l n v e w s =
        let c = (block_sample t k sx xend sy rows cols h a b p q).cell in
        let o = own_cell t k (sy + a * t.step) (sx + b * t.step) (mine_in t k (sx + b * t.step) c.left c.right) in
        w s ∙ rw e (rw (o.0, o.1))

    pub col_again : (a b : ℕ) (l m n : Field) → a < rows → b < cols → AtCol a b l m → IsSameField n l
        → Set n l (field_at t (sy + a * t.step) (sx + b * t.step)) (mean_in means a b) (as_byte delta) → AtCol a (b + 1) n m
    col_again a b l m n p q c e w =
        record {
          like = same_after e c.like;
          left = λ was g s.
              turned (mean_put t delta sx xend sy cols was a) cols b (stored s l) (stored s n) _ q (mean_on was a b p q l n (mean_in means a b) (g a b p q) w s) (c.left was g s);
        }

    pub row_again : (a b : ℕ) (l m n : Field) → a < rows → cols ≤ b → AtRow a l m → AtCol a b n l → AtRow (a + 1) n m
    row_again a b l m n p q r c =
        record {
          like = same_after c.like r.like;
          left = λ was g s.
              turned (row_put t delta sx xend sy cols was) rows a (stored s l) (stored s n) _ p
              (ended (mean_put t delta sx xend sy cols was a) cols b (stored s n) _ q (c.left was g s)) (r.left was g s);
        }

    pub rows_done : (a : ℕ) (l m : Field) → rows ≤ a → AtRow a l m → (was : Kind → ℕ → Mv) → Means was → (s : Store) → stored s l ≡ run (owns t) (smooth_block t delta sx xend sy was) (stored s m)
    rows_done a l m p r was g s =
        ended (row_put t delta sx xend sy cols was) rows a (stored s l) _ p (r.left was g s) ∙ sym (block_by t delta was sx xend sy rows cols h.row_count h.col_count (stored s m))

    -- the means are those of the cells as the owner reads them
    pub block_on : (l n : Field) → ((a b : ℕ) → a < rows → b < cols → mean_in means a b ≡ smoothed_of (around t (vector_in l) sx xend (sy + a * t.step) (sx + b * t.step)))
        → ((was : Kind → ℕ → Mv) → Means was → (s : Store) → stored s n ≡ run (owns t) (smooth_block t delta sx xend sy was) (stored s l))
        → (s : Store) → stored s n ≡ run (owns t) (snapshot (smooth_block t delta sx xend sy)) (stored s l)
    block_on l n m p s =
        p (read_own (owns t) (stored s l)) (λ a b u v. m a b u v ∙ ap smoothed_of (sym (reads a b u v))) s
      where
        reads : (a b : ℕ) → a < rows → b < cols
            → around t (read_own (owns t) (stored s l) field_mvs) sx xend (sy + a * t.step) (sx + b * t.step) ≡ around t (vector_in l) sx xend (sy + a * t.step) (sx + b * t.step)
        reads a b u v =
            let c = block_sample t k sx xend sy rows cols h a b u v in
            let q : Sampled t sx (sx + b * t.step) = record { left = c.left; from = c.from; to = rw h.end at c.to; on = c.col } in
            rw h.end (around_same t k (stored s l) sx (sy + a * t.step) (sx + b * t.step) q)

-- the loops over the blocks: a block, a column of them
module _ (t : Geometry) (delta : ℤ) where
  abbrev pub square_turn : ℕ → ℕ → ℕ → Store → Store
  square_turn sx xend sy s = run (owns t) (snapshot (smooth_block t delta sx xend sy)) s

  abbrev pub column_turn : ℕ → Store → Store
  column_turn sx s = span_by t.block (square_turn sx (min t.right (sx + t.block))) t.top t.bottom s

  pub record AtSquare (sx xend sy : ℕ) (l m : Field) : Type 0 where
    pub like : IsSameField l m
    pub from : t.top ≤ sy
    pub on : sy % t.block ≡ 0
    pub left : (s : Store) → span_by t.block (square_turn sx xend) sy t.bottom (stored s l) ≡ span_by t.block (square_turn sx xend) t.top t.bottom (stored s m)

  pub record AtColumn (sx : ℕ) (l m : Field) : Type 0 where
    pub like : IsSameField l m
    pub from : t.left ≤ sx
    pub on : sx % t.block ≡ 0
    pub left : (s : Store) → span_by t.block column_turn sx t.right (stored s l) ≡ span_by t.block column_turn t.left t.right (stored s m)

  -- a column of blocks has been smoothed
  pub record ColumnDone (sx xend : ℕ) (l m : Field) : Type 0 where
    pub like : IsSameField l m
    pub stored : (s : Store) → stored s l ≡ span_by t.block (square_turn sx xend) t.top t.bottom (stored s m)

  module _ (k : Sound t) where
    pub column_holds : (l : Field) → AtColumn t.left l l
    column_holds l = record { like = same_field l; from = omega arith; on = k.start; left = λ s. refl }

    pub square_holds : (sx xend : ℕ) (l : Field) → AtSquare sx xend t.top l l
    square_holds sx xend l = record { like = same_field l; from = omega arith; on = k.top_on_block; left = λ s. refl }

    pub square_again : (sx xend sy : ℕ) (l m n : Field) → sy < t.bottom → AtSquare sx xend sy l m → IsSameField n l
        → ((s : Store) → stored s n ≡ square_turn sx xend sy (stored s l)) → AtSquare sx xend (sy + t.block) n m
    square_again sx xend sy l m n h a p e =
        record {
          like = same_after p a.like;
          from = omega (arith, a.from);
          on = add-mod_right sy t.block ∙ a.on;
          left = λ s. turned_by (square_turn sx xend) t.block t.bottom sy (stored s l) (stored s n) _ (block_some t k) h (e s) (a.left s);
        }

    pub squares_done : (sx xend sy : ℕ) (l m : Field) → t.bottom ≤ sy → AtSquare sx xend sy l m → ColumnDone sx xend l m
    squares_done sx xend sy l m h a =
        record { like = a.like; stored = λ s. ended_by (square_turn sx xend) t.block t.bottom sy (stored s l) _ (block_some t k) h (a.left s) }

    pub column_again : (sx xend : ℕ) (l m n : Field) → sx < t.right → xend ≡ min t.right (sx + t.block) → AtColumn sx l m → ColumnDone sx xend n l → AtColumn (sx + t.block) n m
    column_again sx xend l m n h e a d =
        record {
          like = same_after d.like a.like;
          from = omega (arith, a.from);
          on = add-mod_right sx t.block ∙ a.on;
          left = λ s. turned_by column_turn t.block t.right sx (stored s l) (stored s n) _ (block_some t k) h (rw e at (d.stored s)) (a.left s);
        }

    pub smoothen_done : (sx : ℕ) (l m : Field) → t.right ≤ sx → AtColumn sx l m → (s : Store) → stored s l ≡ run (owns t) (smoothen t delta) (stored s m)
    unfolding span_by smoothen
    smoothen_done sx l m h a s = ended_by column_turn t.block t.right sx (stored s l) _ (block_some t k) h (a.left s)
