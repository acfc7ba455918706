-- Laws of a setup: it and its parts, of the same by other names. Assumes nothing.
use Rattle.std.proofs.Common.{refl, sym, ◌∙◌, zero, suc, ◌*◌, ◌⊎◌, ◌<◌, Some, slice_get, length, arith, pos, w8, w32, SFits, ◌≡◌, Bool, List, [], ◌∷◌, ℕ, ◌+◌, ℤ, nat_abs, get_or}
use Rattle.std.proofs.lemmas.List.{ext_get_or}
use Rattle.std.proofs.lemmas.Option.{slice_get-get_or}
use Rattle.std.specs.Int.{FitsUnsignedBits}
use Rattle.loops.proofs.Seven.{seven_is}
use Rattle.cases.proofs.Elements.{as_u8, as_i8, as_i32}
use Rattle.entry.specs.declared.Source.{Source}
use Rattle.frame.specs.declared.Tip.{Tip}
use Rattle.frame.specs.declared.Sources.{Sources}
use Rattle.frame.specs.declared.Frame.{Frame}
use Rattle.cases.specs.Numbers.{at, is_on, Bytes, SignedBytes, Signed32s}
use Rattle.frame_cases.specs.FrameCase.{switches_at}
use Rattle.load_cases.specs.Setup.{bytes_at, signed_at, source_at, sources_at, tip_at, setup_at}

pub source_is : (n : List ℤ) (k : ℕ) {r d : ℕ} {t c : ℤ} {p q u v : List ℤ}
    → r ≡ nat_abs (at n k) → t ≡ at n (k + 1) → d ≡ nat_abs (at n (k + 2)) → c ≡ at n (k + 3)
    → p ≡ signed_at n (k + 4) → q ≡ signed_at n (k + 11) → u ≡ signed_at n (k + 18) → v ≡ signed_at n (k + 25)
    → ◌≡◌ {A = Source} (record { reference = record { 0 = r }; tgt = t; dir = d; ref2cur = c; ref2ref = p; ref2idx = q; ref2sf0 = u; ref2sf1 = v }) (source_at n k)
unfolding source_at
source_is n k e1 e2 e3 e4 e5 e6 e7 e8 = cc

-- four entries that are f's
four_at : {A : Type 0} (f : ℕ → A) (d : A) (i : ℕ) → i < 4 → get_or (f 0 ∷ f 1 ∷ f 2 ∷ f 3 ∷ []) i d ≡ f i
four_at f d zero h = refl
four_at f d (suc zero) h = refl
four_at f d (suc (suc zero)) h = refl
four_at f d (suc (suc (suc zero))) h = refl
four_at f d (suc (suc (suc (suc i)))) h = absurd (omega arith)

four_is : {A : Type 0} (f : ℕ → A) (d : A) (xs : List A) → length xs ≡ 4 → ((i : ℕ) → i < 4 → get_or xs i d ≡ f i) → xs ≡ f 0 ∷ f 1 ∷ f 2 ∷ f 3 ∷ []
four_is f d xs e h = ext_get_or d xs (f 0 ∷ f 1 ∷ f 2 ∷ f 3 ∷ []) e (λ i l. let b : i < 4 = omega (arith, e) in h i b ∙ sym (four_at f d i b))

pub sources_is : (n : List ℤ) {m s : ℕ} {xs : List Source}
    → m ≡ nat_abs (at n 40) → s ≡ nat_abs (at n 42) → length xs ≡ 4 → ((i : ℕ) → i < 4 → get_or xs i (source_at n 43) ≡ source_at n (43 + 32 * i))
    → ◌≡◌ {A = Sources} (record { mfmv = xs; n_mfmvs = s; mfmv_mask = m }) (sources_at n)
unfolding sources_at
sources_is n {m} {s} {xs} e1 e2 e3 e4 =
    let q : xs ≡ source_at n 43 ∷ source_at n 75 ∷ source_at n 107 ∷ source_at n 139 ∷ [] = four_is (λ i. source_at n (43 + 32 * i)) (source_at n 43) xs e3 e4 in cc

pub tip_is : (n : List ℤ) {d a b : ℤ} → d ≡ at n 8 → a ≡ at n 9 → b ≡ at n 10 → ◌≡◌ {A = Tip} (record { delta = d; sf0 = a; sf1 = b }) (tip_at n)
unfolding tip_at
tip_is n e1 e2 e3 = cc

pub setup_is : (n : List ℤ) {w h r sb step mode flip : ℕ} {t0 t1 : ℤ} {t : Tip} {rp sign : List Bool} {d : List ℤ} {a : List ℕ} {mvs : Bool} {s : Sources}
    → w ≡ nat_abs (at n 0) → h ≡ nat_abs (at n 1) → r ≡ nat_abs (at n 2) → sb ≡ nat_abs (at n 3) → step ≡ nat_abs (at n 4) → mode ≡ nat_abs (at n 5)
    → t0 ≡ at n 6 → t1 ≡ at n 7 → t ≡ tip_at n → flip ≡ nat_abs (at n 11) → rp ≡ switches_at n 12 → sign ≡ switches_at n 19
    → d ≡ signed_at n 26 → a ≡ bytes_at n 33 → mvs ≡ is_on (at n 41) → s ≡ sources_at n
    → ◌≡◌ {A = Frame} (record {
      width = w;
      height = h;
      sb128 = sb;
      tmvp_sample_step = step;
      n_refs = r;
      tip_frame_mode = mode;
      tip0 = t0;
      tip1 = t1;
      rp_ref = rp;
      ref_sign = sign;
      pocdiff = d;
      abspocdiff = a;
      ref_flip = flip;
      tip = t;
      use_ref_frame_mvs = mvs;
      sources = s;
    }) (setup_at n)
unfolding setup_at
setup_is n e1 e2 e3 e4 e5 e6 e7 e8 e9 e10 e11 e12 e13 e14 e15 e16 = cc

-- seven numbers that fit their type
module _ {E : Type 0} (n : List ℤ) (k : ℕ) where
  pub i8s_is : (xs : List ℤ) → length xs ≡ 7 → ((i : ℕ) (x : ℤ) → i < 7 → slice_get xs i ≡ Some x → (E × (SFits w8 (at n (k + i)) → ⊥)) ⊎ (SFits w8 (at n (k + i)) × (x ≡ at n (k + i))))
      → SignedBytes k (k + 7) n → xs ≡ signed_at n k
  unfolding signed_at
  i8s_is xs e h b =
      seven_is (λ i. at n (k + i)) (pos 0) xs e (λ i l. as_i8 (h i (at xs i) l (slice_get-get_or xs i (pos 0) (omega arith))) (b (k + i) (omega arith) (omega arith)))

  pub i32s_is : (xs : List ℤ) → length xs ≡ 7 → ((i : ℕ) (x : ℤ) → i < 7 → slice_get xs i ≡ Some x → (E × (SFits w32 (at n (k + i)) → ⊥)) ⊎ (SFits w32 (at n (k + i)) × (x ≡ at n (k + i))))
      → Signed32s k (k + 7) n → xs ≡ signed_at n k
  unfolding signed_at
  i32s_is xs e h b =
      seven_is (λ i. at n (k + i)) (pos 0) xs e (λ i l. as_i32 (h i (at xs i) l (slice_get-get_or xs i (pos 0) (omega arith))) (b (k + i) (omega arith) (omega arith)))

  pub u8s_is : (xs : List ℕ) → length xs ≡ 7
      → ((i x : ℕ) → i < 7 → slice_get xs i ≡ Some x → (E × (FitsUnsignedBits 8 (at n (k + i)) → ⊥)) ⊎ (FitsUnsignedBits 8 (at n (k + i)) × (x ≡ nat_abs (at n (k + i)))))
      → Bytes k (k + 7) n → xs ≡ bytes_at n k
  unfolding bytes_at
  u8s_is xs e h b =
      seven_is (λ i. nat_abs (at n (k + i))) 0 xs e (λ i l. as_u8 (h i (get_or xs i 0) l (slice_get-get_or xs i 0 (omega arith))) (b (k + i) (omega arith) (omega arith)))
