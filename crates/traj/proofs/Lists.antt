-- Trajectories and maps as the passes are lent them, in loops. Assumes nothing.
use Rattle.std.proofs.Common.{ℤ}
use Rattle.store.specs.declared.Pairs.{Pairs}
use Rattle.store.specs.Lent.{IsSamePairs, with_trajs, with_maps, stored_trajs}
use Rattle.store.specs.Store.{Store}
use Rattle.store.proofs.Borrows.{same_pairs, same_pairs_after}
use Rattle.store.proofs.Lent.{Lent}

abbrev pub pairs_lent : (Store → Pairs ℤ → Store) → Lent (Pairs ℤ)
pairs_lent into = record { into = into; Like = IsSamePairs; like_refl = λ p. same_pairs p; like_trans = λ p q r a b. same_pairs_after a b }

-- trajectories alone, maps alone
abbrev pub trajs_lent : Lent (Pairs ℤ)
trajs_lent = pairs_lent with_trajs

abbrev pub maps_lent : Lent (Pairs ℤ)
maps_lent = pairs_lent with_maps

-- both
pub record Both : Type 0 where
  pub trajs : Pairs ℤ
  pub maps : Pairs ℤ

abbrev pub both : Pairs ℤ → Pairs ℤ → Both
both t m = record { trajs = t; maps = m }

pub record IsSameBoth (l m : Both) : Type 0 where
  pub trajs : IsSamePairs l.trajs m.trajs
  pub maps : IsSamePairs l.maps m.maps

abbrev pub all_lent : Lent Both
all_lent =
    record {
      into = λ s l. stored_trajs s l.trajs l.maps;
      Like = IsSameBoth;
      like_refl = λ l. record { trajs = same_pairs l.trajs; maps = same_pairs l.maps };
      like_trans = λ l m n p q. record { trajs = same_pairs_after p.trajs q.trajs; maps = same_pairs_after p.maps q.maps };
    }
