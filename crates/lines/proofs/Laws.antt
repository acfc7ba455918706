-- Laws of the reader. Assumes nothing.
use Rattle.std.proofs.Common.{true, false, List, ◌≡◌, refl, ℕ, zero, suc, ◌+◌, ◌-◌, ◌<◌, ◌≤◌, arith, is_some, length, get_or, lt-ltb, le-ltb, eq-eqb, ne_eqb, true≢false, sym, ◌∙◌}
use Rattle.lines.specs.declared.State.{State}
use Rattle.lines.specs.Line.{bytes, refused, Reader, with_state, step, taken, unless_found, steps_from, steps, end_input, given, ReadSome, Reads, never, found, then}

-- ---- the bytes of the input up to e, from i on

module _ {a : Reader} (input : List ℕ) (e i : ℕ) (r : Reader) (w : steps_from (e - i) input i r ≡ a) where
  pub ends : e ≤ i → r ≡ a
  unfolding steps_from
  ends h = let d : e - i ≡ 0 = omega arith in rw d at w

  pub lacks : i < e → length input ≤ i → with_state r (refused r.state) ≡ a
  unfolding steps_from
  lacks h k = let d : e - i ≡ suc (e - (i + 1)) = omega arith in rw (d, le-ltb i (length input) k) at w

  module _ (q : Reader) (h : i < e) (k : i < length input) (s : q ≡ step (get_or input i 0) r) where
    turn : unless_found (steps_from (e - (i + 1)) input (i + 1)) (taken (i + 1) q) ≡ a
    unfolding steps_from
    turn = let d : e - i ≡ suc (e - (i + 1)) = omega arith in rw s (rw (d, lt-ltb i (length input) k) at w)

    pub goes_on : is_some q.state.found ≡ false → steps_from (e - (i + 1)) input (i + 1) (taken (i + 1) q) ≡ a
    goes_on n = rw n at turn

    pub stops : is_some q.state.found ≡ true → taken (i + 1) q ≡ a
    stops n = rw n at turn

-- ---- a turn of reading

module _ (input : List ℕ) (r q : Reader) (s : q ≡ steps input r) where
  pub read_line : is_some q.state.found ≡ true → ReadSome input r input q
  read_line n = record { more = 0; fits = omega arith; is = rw (← s, n); same = λ h. refl }

  pub read_more : (t : State) {next : List ℕ} → is_some q.state.found ≡ false → t ≡ bytes 0 t.end q.state → t.end ≤ length input → (t.end ≡ 0 → ⊥) → ReadSome input r next (with_state q t)
  unfolding given
  read_more t n f l z = record { more = t.end; fits = l; is = rw (← s, n, ne_eqb _ _ z, ← f); same = λ h. absurd (true≢false (sym (rw (← s) at h) ∙ n)) }

  pub read_end : (t : State) {next : List ℕ} {z : Reader} → is_some q.state.found ≡ false → t ≡ bytes 0 t.end q.state → t.end ≡ 0 → z ≡ end_input (with_state q t) → ReadSome input r next z
  unfolding given
  read_end t n f e y = record { more = t.end; fits = omega arith; is = rw (← s, n, eq-eqb _ _ e, ← f) y; same = λ h. absurd (true≢false (sym (rw (← s) at h) ∙ n)) }

-- ---- turns until something is found: what those that are left find, is found from the first on

-- with n turns left of all, the reader is at m
pub record Left (all n : ℕ) (first : List ℕ) (r : Reader) (input : List ℕ) (m : Reader) : Type 0 where
  pub then_all : (last : List ℕ) (q : Reader) → Reads n input m last q → Reads all first r last q

module _ {all n : ℕ} {first input last : List ℕ} {r m q : Reader} (l : Left all n first r input m) where
  pub found_now : 0 < n → ReadSome input m last q → is_some q.state.found ≡ true → Reads all first r last q
  found_now h s f = l.then_all last q (by n h)
    where
      by : (k : ℕ) → 0 < k → Reads k input m last q
      by zero h = absurd (omega arith)
      by (suc k) h = found s f

  pub found_later : (k : ℕ) → suc k ≡ n → ReadSome input m last q → is_some q.state.found ≡ false → Left all k first r last q
  found_later k e s f = record { then_all = λ last' q' d. l.then_all last' q' (rw e at (then s f d)) }

pub found_never : {all n : ℕ} {first input : List ℕ} {r m : Reader} → n ≤ 0 → Left all n first r input m → Reads all first r input m
found_never {n = n} {input = input} {m = m} h l = let e : n ≡ 0 = omega arith in l.then_all _ _ (rw e never)
