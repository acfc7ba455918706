-- The leading run; that what is picked are sources in range; the straight lines of calls. Assumes nothing.
use Rattle.std.proofs.Common.{◌≡◌, refl, sym, ap, ◌∙◌, length, take, drop, [], ◌∷◌, ◌/◌, Bool, true, false, cond, ◌&&◌, ◌||◌, Option, Some, None, Ok, Err, List, ℕ, zero, suc, ◌+◌, ◌*◌, ◌-◌, ◌<◌, ◌≤◌, ltb, leb, ℤ, pos, negsuc, nat_abs, leb-false, ne_eqb, ltb-false, arith, get_or, replicate}
use Rattle.std.proofs.lemmas.List.{ext_get_or, drop_more, length-take-le, take_all}
use Rattle.std.specs.Bool.{⊤}
use lib.Signed.{le_z, lt_z}
use Rattle.env.specs.Hints.{hint_diff}
use Rattle.entry.specs.declared.Source.{Source}
use Rattle.entry.specs.Entry.{ratio_z}
use Rattle.intops.proofs.Signed.{signed, ud}
use Rattle.frame.specs.declared.Header.{Header}
use Rattle.loops.proofs.Counting.{byte_one}
use Rattle.loops.proofs.Keeps.{set_has, span_in}
use Rattle.picks.specs.declared.Pocs.{Pocs}
use Rattle.picks.specs.declared.Picks.{Picks}
use Rattle.picks.specs.declared.MfmvRef.{MfmvRef}
use Rattle.levels.specs.declared.Refusal.{Refusal}
use Rattle.levels.specs.Answer.{number_of, refused_if}
use Rattle.levels.proofs.Refusals.{number_pos}
use Rattle.picks.specs.Hints.{hint_of, hints_refusal}
use Rattle.picks.proofs.Laws.{side_valid, earlier_valid, later_valid}
use Rattle.rank.specs.Rank.{sorted}
use Rattle.rank.proofs.Laws.{sorted_small}
use Rattle.topo.proofs.Small.{ordered_small}
use Rattle.topo.specs.declared.Order.{Order}
use Rattle.topo.specs.Topo.{Links, ordered}
use Rattle.levels.specs.declared.Slot.{Slot}
use Rattle.levels.specs.Slots.{slot, slot_at}
use Rattle.picks.specs.Picks.{Valid, Slots, pushed, offered, with_side, nearer_earlier, in_turn, round, neighbours, nth_earlier, nth_later, nearest, both_ways, from_end, rest}
use Rattle.refs.specs.Refs.{links_of, diffs, signs}
use Rattle.frame.specs.Frame.{Fine, Pickable, leading, no_pick, both, no_source, started, tip_pick, tip_put, tip_add, with_tip, picked, tip_diff, in_byte, tip_with, tip_of, slot_of, refusal_of, frame_of, zero_frame, setup_of}

-- how many slots at the head of a list have their sign set
unfoldable pub lead : List Bool → List Slot → ℕ
lead sg [] = 0
lead sg (s ∷ ss) = cond (get_or sg s.0 false) (lead sg ss + 1) 0

pub lead_hit : (sg : List Bool) (s : Slot) (ss : List Slot) → get_or sg s.0 false ≡ false → lead sg (s ∷ ss) ≡ 0
unfolding lead
lead_hit sg s ss e = rw e

pub lead_miss : (sg : List Bool) (s : Slot) (ss : List Slot) → get_or sg s.0 false ≡ true → lead sg (s ∷ ss) ≡ lead sg ss + 1
unfolding lead
lead_miss sg s ss e = rw e

more : (t : Bool) (a b l : ℕ) → a ≡ b + (l + 1) → cond t a l ≡ cond t (b + 1) 0 + l
more true a b l e = omega arith
more false a b l e = omega arith

-- the run from l on, of the slots that stand there
pub lead_is : (sg : List Bool) (xs : List Slot) (k l : ℕ) → l + k ≤ length xs → leading sg xs k l ≡ lead sg (take k (drop l xs)) + l
unfolding leading lead
lead_is sg xs zero l h = omega arith
lead_is sg xs (suc k) l h =
    let i : l < length xs = omega arith in
    rw (drop_more xs l (slot 0) i) (more (get_or sg (slot_at xs l) false) _ _ l (lead_is sg xs k (l + 1) (omega arith)))

-- of the first k slots alone
pub lead_front : (sg : List Bool) (xs : List Slot) (k : ℕ) → k ≤ length xs → leading sg (take k xs) (length (take k xs)) 0 ≡ leading sg xs k 0
lead_front sg xs k h =
    let m : length (take k xs) ≡ k = length-take-le k xs h in
    let e : take k (drop 0 (take k xs)) ≡ take k xs = take_all k (take k xs) (omega (arith, m)) in
    ap (λ n. leading sg (take k xs) n 0) m ∙ lead_is sg (take k xs) k 0 (omega (arith, m)) ∙ ap (λ zs. lead sg zs + 0) e ∙ sym (lead_is sg xs k 0 (omega (arith, h)))

lead_go : (t : Bool) (a l k : ℕ) → a ≤ (l + 1) + k → cond t a l ≤ l + suc k
lead_go true a l k h = omega arith
lead_go false a l k h = omega arith

pub lead_le : (sg : List Bool) (xs : List Slot) (k l : ℕ) → leading sg xs k l ≤ l + k
unfolding leading
lead_le sg xs zero l = omega arith
lead_le sg xs (suc k) l = lead_go (get_or sg (slot_at xs l) false) (leading sg xs k (l + 1)) l k (lead_le sg xs k (l + 1))

-- ---- the sources picked are slots, four at most

push_fine : (x : MfmvRef) (p : Picks) → Pickable x → p.count < 4 → Fine p → Fine (pushed x p)
push_fine x p h l f = record { few = omega arith; each = λ k. set_has Pickable p.list p.count k x no_pick h (f.each k) }

offered_go : (limit : ℕ) (s : Slot) (dir : ℕ) (p : Picks) (t u : Bool) → leb limit p.count ≡ t → limit ≤ 4 → s.0 < 7 → dir < 2 → Fine p
    → Fine (cond t p (cond u p (pushed (record { reference = s; tgt = None; dir = dir }) p)))
offered_go limit s dir p true u e l h d f = f
offered_go limit s dir p false true e l h d f = f
offered_go limit s dir p false false e l h d f =
    push_fine (record { reference = s; tgt = None; dir = dir }) p (record { reference = h; target = tt; dir = d }) (omega (arith, leb-false limit p.count e)) f

pub offered_fine : (limit : ℕ) (c : Option Slot) (dir : ℕ) (p : Picks) → limit ≤ 4 → Valid c → dir < 2 → Fine p → Fine (offered limit c dir p)
unfolding offered
offered_fine limit None dir p l v d f = f
offered_fine limit (Some s) dir p l v d f = offered_go limit s dir p (leb limit p.count) (get_or p.taken (s.0 * 2 + dir) false) refl l v d f

turn_go : (a b : Option Slot) (p : Picks) (t : Bool) → Valid a → Valid b → Fine p → Fine (cond t (offered 3 b 0 (offered 3 a 1 p)) (offered 3 a 1 (offered 3 b 0 p)))
turn_go a b p true va vb f = offered_fine 3 b 0 _ (omega arith) vb (omega arith) (offered_fine 3 a 1 p (omega arith) va (omega arith) f)
turn_go a b p false va vb f = offered_fine 3 a 1 _ (omega arith) va (omega arith) (offered_fine 3 b 0 p (omega arith) vb (omega arith) f)

pub neighbours_fine : (h : Pocs) (xs : List Slot) (f : ℕ) (p : Picks) → Slots xs → Fine p → Fine (neighbours h xs f p)
unfolding neighbours in_turn
neighbours_fine h xs f p v fp =
    span_in Fine (round h xs f) 2
    (λ n q l fq.
    let a = with_side h true (nth_earlier xs f (n + 1)) in let b = with_side h false (nth_later xs f h.n_refs n) in
    turn_go a b q (nearer_earlier h a b) (side_valid h true _ (earlier_valid xs f (n + 1) v)) (side_valid h false _ (later_valid xs f h.n_refs n v)) fq)
    p fp

pub nearest_fine : (xs : List Slot) (f : ℕ) (p : Picks) → Slots xs → Fine p → Fine (nearest xs f p)
unfolding nearest
nearest_fine xs f p v fp =
    offered_fine 3 (nth_earlier xs f 2) 0 _ (omega arith) (earlier_valid xs f 2 v) (omega arith) (offered_fine 3 (nth_earlier xs f 1) 0 p (omega arith) (earlier_valid xs f 1 v) (omega arith) fp)

both_go : (s : Slot) (p : Picks) (t : Bool) → s.0 < 7 → Fine p → Fine (cond t (offered 4 (Some s) 0 (offered 4 (Some s) 1 p)) (offered 4 (Some s) 1 (offered 4 (Some s) 0 p)))
both_go s p true h f = offered_fine 4 (Some s) 0 _ (omega arith) h (omega arith) (offered_fine 4 (Some s) 1 p (omega arith) h (omega arith) f)
both_go s p false h f = offered_fine 4 (Some s) 1 _ (omega arith) h (omega arith) (offered_fine 4 (Some s) 0 p (omega arith) h (omega arith) f)

pub rest_fine : (d : List ℤ) (xs : List Slot) (n : ℕ) (p : Picks) → Slots xs → Fine p → Fine (rest d xs n p)
unfolding rest both_ways
rest_fine d xs n p v fp =
    span_in Fine (from_end d xs n) n
    (λ k q l fq. both_go (get_or xs (n - 1 - k) (slot 0)) q (le_z (pos 0) (get_or d (slot_at xs (n - 1 - k)) (pos 0))) (v (n - 1 - k)) fq)
    p fp

pub started_none : (present : List Bool) (n : ℕ) → (started present n).count ≡ 0
unfolding started
started_none present n = refl

zeros : (n k : ℕ) → Pickable (get_or (replicate n no_pick) k no_pick)
zeros zero k = record { reference = omega arith; target = omega arith; dir = omega arith }
zeros (suc n) zero = record { reference = omega arith; target = omega arith; dir = omega arith }
zeros (suc n) (suc k) = zeros n k

pub started_fine : (present : List Bool) (n : ℕ) → Fine (started present n)
unfolding started
started_fine present n = record { few = omega arith; each = λ k. zeros 4 k }

-- an entry of what is taken
both_at : (f : ℕ → Bool) (d : Bool) (k : ℕ) → k < 14 → get_or (both f) k d ≡ f (k / 2)
both_at f d zero h = refl
both_at f d (suc zero) h = refl
both_at f d (suc (suc zero)) h = refl
both_at f d (suc (suc (suc zero))) h = refl
both_at f d (suc (suc (suc (suc zero)))) h = refl
both_at f d (suc (suc (suc (suc (suc zero))))) h = refl
both_at f d (suc (suc (suc (suc (suc (suc zero)))))) h = refl
both_at f d (suc (suc (suc (suc (suc (suc (suc zero))))))) h = refl
both_at f d (suc (suc (suc (suc (suc (suc (suc (suc zero)))))))) h = refl
both_at f d (suc (suc (suc (suc (suc (suc (suc (suc (suc zero))))))))) h = refl
both_at f d (suc (suc (suc (suc (suc (suc (suc (suc (suc (suc zero)))))))))) h = refl
both_at f d (suc (suc (suc (suc (suc (suc (suc (suc (suc (suc (suc zero))))))))))) h = refl
both_at f d (suc (suc (suc (suc (suc (suc (suc (suc (suc (suc (suc (suc zero)))))))))))) h = refl
both_at f d (suc (suc (suc (suc (suc (suc (suc (suc (suc (suc (suc (suc (suc zero))))))))))))) h = refl
both_at f d (suc (suc (suc (suc (suc (suc (suc (suc (suc (suc (suc (suc (suc (suc k)))))))))))))) h = absurd (omega arith)

-- fourteen entries that are f's
pub both_is : (f : ℕ → Bool) (xs : List Bool) → length xs ≡ 14 → ((k : ℕ) → k < 14 → get_or xs k false ≡ f (k / 2)) → xs ≡ both f
both_is f xs e h = ext_get_or false xs (both f) e (λ k l. let b : k < 14 = omega (arith, e) in h k b ∙ sym (both_at f false k b))

-- an entry of four sources
four_at : (f : ℕ → Source) (d : Source) (k : ℕ) → k < 4 → get_or (f 0 ∷ f 1 ∷ f 2 ∷ f 3 ∷ []) k d ≡ f k
four_at f d zero h = refl
four_at f d (suc zero) h = refl
four_at f d (suc (suc zero)) h = refl
four_at f d (suc (suc (suc zero))) h = refl
four_at f d (suc (suc (suc (suc k)))) h = absurd (omega arith)

-- four sources that are f's
pub four_is : (f : ℕ → Source) (xs : List Source) → length xs ≡ 4 → ((k : ℕ) → k < 4 → get_or xs k no_source ≡ f k) → xs ≡ f 0 ∷ f 1 ∷ f 2 ∷ f 3 ∷ []
four_is f xs e h = ext_get_or no_source xs (f 0 ∷ f 1 ∷ f 2 ∷ f 3 ∷ []) e (λ k l. let b : k < 4 = omega (arith, e) in h k b ∙ sym (four_at f no_source k b))

put_fine : (h : Pocs) (s t : Slot) (p : Picks) → s.0 < 7 → t.0 < 7 → p.count < 4 → Fine p → Fine (tip_put h s t p)
put_fine h s t p l m c f =
    push_fine (tip_pick h s t) p (record { reference = l; target = m; dir = omega (arith, byte_one (lt_z (hint_diff h.nbits (hint_of h s.0) (hint_of h t.0)) (pos 0))) }) c f

add_fine : (h : Pocs) (place : List ℕ) (a b : Slot) (p : Picks) → a.0 < 7 → b.0 < 7 → p.count < 4 → Fine p → Fine (tip_add h place a b p)
unfolding tip_add
add_fine h place a b p la lb c f = go (ltb (get_or place b.0 0) (get_or place a.0 0))
  where
    go : (t : Bool) → Fine (cond t (tip_put h a b p) (tip_put h b a p))
    go true = put_fine h a b p la lb c f
    go false = put_fine h b a p lb la c f

pub tip_fine : (h : Pocs) (on : Bool) (sg : List Bool) (place : List ℕ) (a b : Slot) (p : Picks) → a.0 < 7 → b.0 < 7 → p.count < 4 → Fine p → Fine (with_tip h on sg place a b p)
unfolding with_tip
tip_fine h on sg place a b p la lb c f = go (on && (get_or sg a.0 false || get_or sg b.0 false))
  where
    go : (t : Bool) → Fine (cond t (tip_add h place a b p) p)
    go true = add_fine h place a b p la lb c f
    go false = f

-- all of it
pub picked_fine : (h : Pocs) (present : List Bool) (tip : Bool) (a b : Slot) → h.n_refs ≤ 7 → a.0 < 7 → b.0 < 7 → Fine (picked h present tip a b)
unfolding picked
picked_fine h present tip a b n la lb =
    let v : Slots (sorted (diffs h) h.n_refs) = sorted_small (diffs h) h.n_refs n in
    rest_fine _ _ _ _ (ordered_small (links_of h) h.n_refs n)
    (nearest_fine _ _ _ v (neighbours_fine h _ _ _ v
    (tip_fine h tip _ _ a b _ la lb (omega (arith, started_none present h.n_refs)) (started_fine present h.n_refs))))

-- the straight line of calls
module _ (h : Pocs) (present : List Bool) (tip : Bool) (a b : Slot) (sg : List Bool) (di : List ℤ) (od : List Slot) (fi : ℕ) (li : Links) (o : Order) (p q r s t : Picks) where
  pub picked_is : sg ≡ signs h → di ≡ diffs h → od ≡ sorted di h.n_refs → fi ≡ leading sg od h.n_refs 0 → li ≡ links_of h → o ≡ ordered li h.n_refs
      → p ≡ started present h.n_refs → q ≡ with_tip h tip sg o.place a b p → r ≡ neighbours h od fi q → s ≡ nearest od fi r → t ≡ rest di o.list o.count s
      → t ≡ picked h present tip a b
  unfolding picked
  picked_is e1 e2 e3 e4 e5 e6 e7 e8 e9 e10 e11 = rw (e11, e10, e9, e8, e7, e6, e5, e4, e3, e2, e1)

pub tip_is : (h : Pocs) (mode : ℕ) (both : Bool) (a b : Slot) (d : ℤ) (ds : List ℤ) (m : ℕ) (x y z : ℤ) → (mode ≡ 0 → ⊥) → d ≡ tip_diff h both a b → ds ≡ diffs h
    → m ≡ nat_abs d → x ≡ in_byte m → y ≡ ratio_z (get_or ds a.0 (pos 0)) d → z ≡ ratio_z (get_or ds b.0 (pos 0)) d → tip_with x y z ≡ tip_of h mode both a b
unfolding tip_of
tip_is h mode both a b d ds m x y z n e1 e2 e3 e4 e5 e6 = rw (ne_eqb mode 0 n, e4, e5, e6, e3, e2, e1)

slot_go : (t : ℤ) (u v : Bool) → lt_z t (pos 0) ≡ u → lt_z (pos 6) t ≡ v → ◌<◌ (cond u (slot 0) (cond v (slot 0) (slot (nat_abs t)))).0 7
slot_go t true v e f = omega arith
slot_go t false true e f = omega arith
slot_go t false false e f = omega (signed, ud t)

-- a TIP slot is a slot
pub slot_small : (t : ℤ) → (slot_of t).0 < 7
unfolding slot_of
slot_small t = slot_go t (lt_z t (pos 0)) (lt_z (pos 6) t) refl refl

-- what the first two tests leave
accepted_go : (a b : Bool) (bits slots n : ℕ) → ltb 8 bits ≡ a → ltb 7 slots ≡ b → cond a 3 (cond b 4 n) ≡ 0 → (bits ≤ 8) × (slots ≤ 7)
accepted_go true b bits slots n e f z = absurd (omega arith)
accepted_go false true bits slots n e f z = absurd (omega arith)
accepted_go false false bits slots n e f z = (ltb-false 8 bits e, ltb-false 7 slots f)

pub accepted : (f : Header) → refusal_of f ≡ 0 → (f.pocs.nbits ≤ 8) × (f.pocs.n_refs ≤ 7)
unfolding refusal_of
accepted f z = accepted_go (ltb 8 f.pocs.nbits) (ltb 7 f.pocs.n_refs) f.pocs.nbits f.pocs.n_refs _ refl refl z

-- ---- the answers of the tests

pub refused : (bad : Bool) (e r : Refusal) → refused_if bad e ≡ Err r → (bad ≡ true) × (e ≡ r)
refused true e r h = (refl, cc)
refused false e r h = cc

pub passed : (bad : Bool) (e : Refusal) (u : ⊤) → refused_if bad e ≡ Ok u → bad ≡ false
passed true e u h = cc
passed false e u h = refl

hints_go : (t u : Bool) (n : ℕ) (e : Refusal) → cond t 3 (cond u 4 0) ≡ number_of e → cond t 3 (cond u 4 n) ≡ number_of e
hints_go true u n e h = h
hints_go false true n e h = h
hints_go false false n e h = absurd (omega (arith, number_pos e))

-- a refusal of the hints is the header's
pub hints_first : (f : Header) (e : Refusal) → hints_refusal f.pocs ≡ number_of e → refusal_of f ≡ number_of e
unfolding hints_refusal refusal_of
hints_first f e h = hints_go (ltb 8 f.pocs.nbits) (ltb 7 f.pocs.n_refs) _ e h

hints_none_go : (t u : Bool) → ◌≡◌ {A = ℕ} (cond t 3 (cond u 4 0)) 0 → (t ≡ false) × (u ≡ false)
hints_none_go true u h = absurd (omega arith)
hints_none_go false true h = absurd (omega arith)
hints_none_go false false h = (refl, refl)

pub hints_none : (f : Header) → hints_refusal f.pocs ≡ 0 → (ltb 8 f.pocs.nbits ≡ false) × (ltb 7 f.pocs.n_refs ≡ false)
unfolding hints_refusal
hints_none f h = hints_none_go (ltb 8 f.pocs.nbits) (ltb 7 f.pocs.n_refs) h

-- a header that is refused, and one that is not
pub setup_refused : (f : Header) (e : Refusal) → refusal_of f ≡ number_of e → setup_of f ≡ record { refusal = number_of e; frame = zero_frame }
unfolding setup_of
setup_refused f e h = rw (h, ne_eqb (number_of e) 0 (λ (z : number_of e ≡ 0). omega (arith, number_pos e)))

pub setup_made : (f : Header) → refusal_of f ≡ 0 → setup_of f ≡ record { refusal = 0; frame = frame_of f }
unfolding setup_of
setup_made f h = rw h
