-- The order theorem for any calls: accepted calls that are apart commute, and no accepted load changes any call's answer. Assumes nothing.
use Rattle.std.proofs.Common.{◌≡◌, refl, sym, ap, ◌∙◌, Bool, true, false, cond, List, [], ◌∷◌, map, ℕ, eqb-true, leb, eqb}
use Rattle.store.specs.Calls.{keep, insert_by, sort_by, All, Pairs, accepted, called, as_listed, answers, loaded, plain_calls, plain_run}

module _ {A : Type 0} (key : A → ℕ) (P : A → Type 0) where
  all_insert : (x : A) (l : List A) → P x → All P l → All P (insert_by key x l)
  all_insert x [] p a = (p, tt)
  all_insert x (y ∷ ys) p a = go (leb (key x) (key y)) (all_insert x ys p a.1)
    where
      go : (b : Bool) → All P (insert_by key x ys) → All P (cond b (x ∷ y ∷ ys) (y ∷ insert_by key x ys))
      go true r = (p, a)
      go false r = (a.0, r)

  -- sorting keeps what holds of each
  pub all_sort : (l : List A) → All P l → All P (sort_by key l)
  all_sort [] a = tt
  all_sort (x ∷ xs) a = all_insert x (sort_by key xs) a.0 (all_sort xs a.1)

-- what was kept of a list passed the test
pub all_keep : {A : Type 0} (p : A → Bool) (l : List A) → All (λ x. p x ≡ true) (keep p l)
all_keep p [] = tt
all_keep p (x ∷ l) = go (p x) refl (all_keep p l)
  where
    go : (b : Bool) → p x ≡ b → All (λ y. p y ≡ true) (keep p l) → All (λ y. p y ≡ true) (cond b (x ∷ keep p l) (keep p l))
    go true e a = (e, a)
    go false e a = a

-- what holds of every two elements, from what holds of each and of every two
pub pairs_map : {A : Type 0} (P : A → Type 0) (R T : A → A → Type 0) (l : List A) → ((x y : A) → P x → P y → R x y → T x y) → All P l → Pairs R l → Pairs T l
pairs_map P R T [] f a r = tt
pairs_map P R T (x ∷ l) f a r = (row l a.1 r.0, pairs_map P R T l f a.1 r.1)
  where
    row : (l : List _) → All P l → All (R x) l → All (T x) l
    row [] b q = tt
    row (y ∷ ys) b q = (f x y a.0 b.0 q.0, row ys b.1 q.1)

module _ {S Call : Type 0} (answer : Call → S → ℕ) (load : Call → S → S) (start : Call → ℕ) where
  module _ (Apart : Call → Call → Type 0) (comm : (c d : Call) (s : S) → Apart c d → load d (load c s) ≡ load c (load d s)) where
    run_insert : (c : Call) (l : List Call) (s : S) → All (Apart c) l → loaded answer load (insert_by start c l) s ≡ loaded answer load l (load c s)
    run_insert c [] s a = refl
    run_insert c (d ∷ l) s a = go (leb (start c) (start d)) (run_insert c l (load d s) a.1)
      where
        go : (b : Bool) → loaded answer load (insert_by start c l) (load d s) ≡ loaded answer load l (load c (load d s))
            → loaded answer load (cond b (c ∷ d ∷ l) (d ∷ insert_by start c l)) s ≡ loaded answer load l (load d (load c s))
        go true h = refl
        go false h = rw (comm c d s a.0) h

    run_sort : (l : List Call) (s : S) → Pairs Apart l → loaded answer load (sort_by start l) s ≡ loaded answer load l s
    run_sort [] s a = refl
    run_sort (c ∷ l) s a = run_insert c (sort_by start l) s (all_sort start (Apart c) l a.0) ∙ run_sort l (load c s) a.1

  module _ (stays : (c d : Call) (s : S) → answer c s ≡ 0 → answer d (load c s) ≡ answer d s) where
    -- a call leaves every call's answer
    called_stays : (c d : Call) (s : S) → answer d (called answer load c s) ≡ answer d s
    called_stays c d s = go (eqb (answer c s) 0) refl
      where
        go : (b : Bool) → eqb (answer c s) 0 ≡ b → answer d (cond b (load c s) s) ≡ answer d s
        go true e = stays c d s (eqb-true (answer c s) 0 e)
        go false e = refl

    -- so each call of a list is answered as on the first store
    pub answers_stay : (l : List Call) (s₀ s : S) → ((d : Call) → answer d s ≡ answer d s₀) → answers answer load l s ≡ map (λ c. answer c s₀) l
    answers_stay [] s₀ s h = refl
    answers_stay (c ∷ l) s₀ s h =
        ap (λ (n : ℕ). n ∷ answers answer load l (called answer load c s)) (h c)
        ∙ ap (λ (r : List ℕ). answer c s₀ ∷ r) (answers_stay l s₀ (called answer load c s) (λ d. called_stays c d s ∙ h d))

    -- the calls in the list's order are the accepted ones, by the first store's answers
    run_keep : (l : List Call) (s₀ s : S) → ((d : Call) → answer d s ≡ answer d s₀)
        → as_listed answer load l s ≡ loaded answer load (keep (accepted answer load s₀) l) s
    run_keep [] s₀ s h = refl
    run_keep (c ∷ l) s₀ s h = rw (h c) (go (eqb (answer c s₀) 0) refl (run_keep l s₀))
      where
        go : (b : Bool) → eqb (answer c s₀) 0 ≡ b
            → ((u : S) → ((d : Call) → answer d u ≡ answer d s₀) → as_listed answer load l u ≡ loaded answer load (keep (accepted answer load s₀) l) u)
            → as_listed answer load l (cond b (load c s) s) ≡ loaded answer load (cond b (c ∷ keep (accepted answer load s₀) l) (keep (accepted answer load s₀) l)) s
        go true e ih = ih (load c s) (λ d. stays c d s (h c ∙ eqb-true (answer c s₀) 0 e) ∙ h d)
        go false e ih = ih s h

    -- the run in the list's order is the plain run
    pub order : (Apart : Call → Call → Type 0) → ((c d : Call) (s : S) → Apart c d → load d (load c s) ≡ load c (load d s))
        → (l : List Call) (s : S) → Pairs Apart (keep (accepted answer load s) l) → as_listed answer load l s ≡ plain_run answer load start l s
    order Apart comm l s a = run_keep l s s (λ d. refl) ∙ sym (run_sort Apart comm (keep (accepted answer load s) l) s a)

    same_each : (l : List Call) (s : S) → All (λ c. accepted answer load s c ≡ true) l → map (λ c. answer c s) l ≡ map (λ c. 0) l
    same_each [] s a = refl
    same_each (c ∷ l) s a = rw (eqb-true (answer c s) 0 a.0, same_each l s a.1)

    -- none of the plain run's calls is refused
    pub none_refused : (l : List Call) (s : S) → answers answer load (plain_calls answer load start l s) s ≡ map (λ c. 0) (plain_calls answer load start l s)
    none_refused l s =
        answers_stay (plain_calls answer load start l s) s s (λ d. refl)
        ∙ same_each (plain_calls answer load start l s) s (all_sort start (λ c. accepted answer load s c ≡ true) (keep (accepted answer load s) l) (all_keep (accepted answer load s) l))
