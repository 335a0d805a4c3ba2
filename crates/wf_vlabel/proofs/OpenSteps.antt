-- The matrices of an open step stand within the group of its body.
use Rattle.std.proofs.Common.{◌≡◌, ℕ, ◌+◌, ◌*◌, ◌<◌, ◌≤◌, List, Option, length, sym, subst, arith}
use Rattle.std.proofs.Math.Nat.{mul-le-mul_right}
use Rattle.wf_model.specs.Grammar.{body_of}
use Rattle.wf_model.specs.Reach.{Step}
use Rattle.wf_vlabel.specs.declared.rounds.stills.Stills.{Stills}
use Rattle.wf_vlabel.specs.Groups.{HasGroup}
use Rattle.wf_vlabel.specs.Tables.{of_position, of_body, begins}
use Rattle.wf_vlabel.specs.Seen.{ViewLabelSeen, Opens}
use Rattle.wf_vlabel.specs.Held.{IsKept}

-- a place of a position is one of its body
placed : (k n a : ℕ) → k < n → a < n + 2 → k * (n + 2) + a < n * (n + 2)
placed k n a h i = let m : (k + 1) * (n + 2) ≤ n * (n + 2) = mul-le-mul_right (n + 2) (omega arith) in grind arith

-- so the label has a matrix there, by its parts as they are held
pub reads : (held l : ViewLabelSeen) (stills : List Stills) (cuts : List (Option ℕ)) (s : Step) (a n : ℕ) → IsKept held stills cuts → held ≡ l → Opens l s → a < of_position l.grammar s.production → n ≡ begins l.grammar s + a → (count : ℕ) × HasGroup held.bodies s.production count × (n < count)
reads held l stills cuts s a n h same opens i e =
    let kept : IsKept l stills cuts = subst (λ k. IsKept k stills cuts) same h in
    let open_step = opens.2 in
    let count = of_body l.grammar s.production in
    let group = kept.body_groups.has opens.0 s opens.1.expanded open_step in
    let inside = placed s.position (length (body_of l.grammar s.production)) a open_step.position i in
    (count, subst (λ k. HasGroup k.bodies s.production count) (sym same) group, subst (λ k. k < count) (sym e) inside)
