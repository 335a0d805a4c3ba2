-- The ports of a well-formed grammar have room in few states.
use Rattle.std.proofs.Common.{ℕ, ◌+◌, ◌*◌, ◌-◌, ◌<◌, ◌≤◌, length, subst, arith}
use Rattle.std.proofs.Math.Arith.{digits_lt}
use Rattle.wf_model.specs.Lists.{IsIn}
use Rattle.wf_model.specs.Grammar.{Grammar, Production, Inner, module_at, production_at}
use Rattle.wf_model.specs.WellFormed.{IsWellFormed, IsWellFormedBody, IsInnerInput, IsInnerOutput}
use Rattle.wf_model.proofs.Lists.{is_at, at_in, in_at, at_is, at_below}
use Rattle.words_model.specs.Lifting.{HasFewStates}
use Rattle.wf_lift.specs.Room.{HasRoom, HasRoomIn}

-- a number below n has its states below those of n
pub states_below : (k n p : ℕ) → 0 < k → p < n → p * k + k ≤ n * k
states_below k n p hk low =
    let last : k - 1 < k = omega arith in
    let d : p * k + (k - 1) < n * k = digits_lt low last in
    omega arith

-- and has room where n has
pub below_has_room : (k n p : ℕ) → 0 < k → n * k ≤ 64 → p < n → p * k + k ≤ 64
below_has_room k n p hk few low = let d = states_below k n p hk low in omega arith

module _ (g : Grammar) (wf : IsWellFormed g) (k : ℕ) (hk : 0 < k) (few : HasFewStates g k) where
  -- the modules have few ports in each state
  pub few_in : (m : ℕ) → m < length g.modules → (length (module_at g m).inputs * k ≤ 64) × (length (module_at g m).outputs * k ≤ 64)
  few_in m l = few (module_at g m) (at_in (module_at g m) m g.modules (is_at m g.modules _ l))

  module _ (p : ℕ) (b : IsWellFormedBody g p) where
    input_room : (i : Inner) → IsInnerInput g p i → HasRoom k i
    input_room i q = below_has_room k (length (module_at g q.0).inputs) i.port hk (few_in q.0 (b.modules q.0 (at_in q.0 i.position _ q.1))).0 q.2

    output_room : (i : Inner) → IsInnerOutput g p i → HasRoom k i
    output_room i q = below_has_room k (length (module_at g q.0).outputs) i.port hk (few_in q.0 (b.modules q.0 (at_in q.0 i.position _ q.1))).1 q.2

    room_in : HasRoomIn k (production_at g p)
    room_in = record {
      edges = λ e h. (output_room e.from (b.edges_from e h), input_room e.to (b.edges_to e h));
      entries = λ i h. input_room i (b.entries_to i h);
      exits = λ i h. output_room i (b.exits_from i h);
    }

  pub rooms : (r : Production) → IsIn r g.productions → HasRoomIn k r
  rooms r h =
      let q = in_at r g.productions h in
      let l = at_below r q.0 g.productions q.1 in
      subst (HasRoomIn k) (at_is r q.0 g.productions _ q.1) (room_in q.0 (wf.bodies q.0 l))
