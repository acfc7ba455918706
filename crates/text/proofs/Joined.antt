-- Laws of pieces of text that are put one behind the other. Assumes nothing.
use Rattle.std.proofs.Common.{List, [], ◌++◌, append_assoc, append-nil, ◌≡◌, refl, ap, ◌∙◌, sym, ℕ, zero, suc, ◌+◌, ◌-◌, ◌≤◌, ◌<◌, add-zero, add-one, arith}
use Rattle.text.specs.Joined.{joined}

pub joined_first : (f : ℕ → List ℕ) (n i : ℕ) → i < n → joined f (n - i) i ≡ f i ++ joined f (n - (i + 1)) (i + 1)
unfolding joined
joined_first f n i h = let e : n - i ≡ suc (n - (i + 1)) = omega arith in rw e

-- what is put, with the pieces that are still to come, is the whole: one piece more
pub joined_more : (done more : List ℕ) {whole : List ℕ} (f : ℕ → List ℕ) (n i : ℕ) → i < n → done ++ joined f (n - i) i ≡ whole → more ≡ done ++ f i → more ++ joined f (n - (i + 1)) (i + 1) ≡ whole
joined_more done more f n i h e p = rw (p, append_assoc, ← joined_first f n i h) e

-- .. and no piece is left
pub joined_all : (done : List ℕ) {whole : List ℕ} (f : ℕ → List ℕ) (n i : ℕ) → n ≤ i → done ++ joined f (n - i) i ≡ whole → done ≡ whole
unfolding joined
joined_all done f n i h e = let z : n - i ≡ 0 = omega arith in sym (append-nil done) ∙ rw z at e

joined_later : (f : ℕ → List ℕ) (n i : ℕ) → joined f (suc n) i ≡ joined f n i ++ f (i + n)
unfolding joined
joined_later f zero i = rw (add-zero, append-nil)
joined_later f (suc n) i = let e : i + suc n ≡ (i + 1) + n = omega arith in rw (e, append_assoc) (ap (λ (t : List ℕ). f i ++ t) (joined_later f n (i + 1)))

-- a piece more, at the end
pub joined_last : (f : ℕ → List ℕ) (n : ℕ) → joined f (n + 1) 0 ≡ joined f n 0 ++ f n
joined_last f n = let e : 0 + n ≡ n = omega arith in rw add-one (joined_later f n 0 ∙ ap (λ (k : ℕ). joined f n 0 ++ f k) e)

pub joined_none : (f : ℕ → List ℕ) → [] ≡ joined f 0 0
unfolding joined
joined_none f = refl
