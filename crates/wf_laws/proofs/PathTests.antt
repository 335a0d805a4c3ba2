-- Of two ports and finitely many links it can be told whether a path joins them.
use Rattle.std.proofs.Common.{◌≡◌, List, map, refl, sym, ap, subst, inl, inr, ⊎_elim}
use Rattle.wf_model.specs.Lists.{IsIn}
use Rattle.wf_model.specs.declared.numbers.Side.{Side}
use Rattle.wf_model.specs.declared.numbers.Side.TheVariants.{Input, Output}
use Rattle.wf_model.specs.Links.{Port, Link, IsLinked, Path}
use Rattle.wf_model.proofs.Lists.{in_map, in_map_from}
use Rattle.wf_model.proofs.Deciding.{Either, Along, number_either, walk_either}

side_either : (a b : Side) → Either (a ≡ b)
side_either Input Input = inl refl
side_either Input Output = inr (λ e. cc)
side_either Output Input = inr (λ e. cc)
side_either Output Output = inl refl

-- two ports are the same, or they are not, where owners are
port_either : {A : Type 0} → ((x y : A) → Either (x ≡ y)) → (x y : Port A) → Either (x ≡ y)
port_either {A} same x y =
    ⊎_elim
    (λ o. ⊎_elim
    (λ s. ⊎_elim
    (λ n. inl (λ i. record { owner = o i; side = s i; number = n i }))
    (λ n. inr (λ e. n (ap (λ (z : Port A). z.number) e)))
    (number_either x.number y.number))
    (λ s. inr (λ e. s (ap (λ (z : Port A). z.side) e)))
    (side_either x.side y.side))
    (λ o. inr (λ e. o (ap (λ (z : Port A). z.owner) e)))
    (same x.owner y.owner)

-- the ends of a link
abbrev ends_of : {A : Type 0} → Link A → Port A × Port A
ends_of l = (l.from, l.to)

linked_ends : {A : Type 0} (ls : List (Link A)) (x y : Port A) → IsLinked ls x y → Along (map ends_of ls) x y
linked_ends ls x y h = in_map ends_of (record { from = x; to = y }) ls h

ends_linked : {A : Type 0} (ls : List (Link A)) (x y : Port A) → Along (map ends_of ls) x y → IsLinked ls x y
ends_linked {A} ls x y h =
    let r = in_map_from ends_of (x, y) ls h in
    let same : ◌≡◌ {A = Link A} (record { from = x; to = y }) r.0 = λ i. record { from = (r.2 i).0; to = (r.2 i).1 } in
    subst (λ (l : Link A). IsIn l ls) (sym same) r.1

-- along links a path leads from one port to another, or none does, where owners are the same or not
pub path_either : {A : Type 0} → ((x y : A) → Either (x ≡ y)) → (ls : List (Link A)) (x y : Port A) → Either (Path ls x y)
path_either same ls = walk_either (port_either same) (IsLinked ls) (map ends_of ls) (ends_linked ls) (linked_ends ls)
