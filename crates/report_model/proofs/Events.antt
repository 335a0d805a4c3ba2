-- Events: when two are the same or about the same, and those of a run.
use Rattle.std.proofs.Common.{◌≡◌, ℕ, true, ◌&&◌, List, [], ◌∷◌, ◌++◌, bytes_eq, Option, Some, None, cond, refl, sym, ap, ◌∙◌, subst, inl, inr, arith, true≢false}
use Rattle.std.specs.Prelude.{◌==◌}
use Rattle.std.specs.Option.{option_eq}
use Rattle.std.specs.Cmp.Lexicographic.{pointwise, pointwise_decides}
use Rattle.std.proofs.lemmas.Bool.{and_from}
use Rattle.std.proofs.lemmas.Bool.Decides.{nat_tests}
use Rattle.wf_model.specs.Lists.{IsIn, AllDiffer}
use Rattle.wf_model.specs.Grammar.{Grammar}
use Rattle.wf_model.specs.declared.event.Event.{Event}
use Rattle.wf_model.specs.declared.event.Event.TheVariants.{Start, Expand}
use Rattle.wf_model.specs.Run.{Expanded, expanded_by, Extends, AllExtend, IsRun}
use Rattle.wf_model.proofs.Lists.{same_bytes, bytes_same}
use Rattle.wf_model.proofs.Runs.{expansion_later, expansion_kept}
use Rattle.wf_model.proofs.Tests.{and_left, and_right}
use Rattle.wf_model.proofs.Deciding.{Either, either_same, test_either, in_either}
use Rattle.label_model.proofs.TakenEvents.{taken, expansion_of}
use Rattle.report_model.specs.Reports.{subject_of, same_event, same_subject}

pub number_same : (p : ℕ) → p == p ≡ true
number_same p = grind (arith, nat_tests)

names_decide : (a b : List (List ℕ)) → (pointwise bytes_eq a b ≡ true → a ≡ b) × (a ≡ b → pointwise bytes_eq a b ≡ true)
names_decide = pointwise_decides (λ x y. (same_bytes x y, bytes_same x y))

pub event_same : (x y : Event) → same_event x y ≡ true → x ≡ y
event_same (Start a) (Start b) h = ap (λ z. Start z) (same_bytes a b h)
event_same (Start a) (Expand j q ms) h = absurd (true≢false (sym h))
event_same (Expand i p ns) (Start b) h = absurd (true≢false (sym h))
event_same (Expand i p ns) (Expand j q ms) h =
    let a = same_bytes i j (and_left (bytes_eq i j) _ h) in
    let rest = and_right (bytes_eq i j) ((p == q) && pointwise bytes_eq ns ms) h in
    let n : p == q ≡ true = and_left (p == q) (pointwise bytes_eq ns ms) rest in
    let b : p ≡ q = grind (arith, nat_tests) in
    let c = (names_decide ns ms).0 (and_right (p == q) (pointwise bytes_eq ns ms) rest) in
    λ t. Expand (a t) (b t) (c t)

pub same_itself : (x : Event) → same_event x x ≡ true
same_itself (Start a) = bytes_same a a refl
same_itself (Expand i p ns) = and_from (bytes_eq i i) _ (bytes_same i i refl) (and_from (p == p) (pointwise bytes_eq ns ns) (number_same p) ((names_decide ns ns).1 refl))

pub subject_itself : (x : Event) → same_subject x x ≡ true
subject_itself (Start a) = refl
subject_itself (Expand i p ns) = bytes_same i i refl

pub option_same : (a b : Option (List ℕ)) → option_eq bytes_eq a b ≡ true → a ≡ b
option_same None None h = refl
option_same None (Some y) h = absurd (true≢false (sym h))
option_same (Some x) None h = absurd (true≢false (sym h))
option_same (Some x) (Some y) h = ap Some (same_bytes x y h)

-- events are about the same exactly if they have one subject
pub subjects_same : (x y : Event) → same_subject x y ≡ true → subject_of x ≡ subject_of y
subjects_same x y h = option_same (subject_of x) (subject_of y) h

pub same_subjects : (x y : Event) → subject_of x ≡ subject_of y → same_subject x y ≡ true
same_subjects x y e = ap (λ z. option_eq bytes_eq (subject_of x) z) (sym e) ∙ subject_itself x

event_either : (x y : Event) → Either (x ≡ y)
event_either x y = either_same (event_same x y) (λ e. ap (same_event x) (sym e) ∙ same_itself x) (test_either (same_event x y))

-- an event is among those of a list, or is not
pub is_there : (x : Event) (es : List Event) → Either (IsIn x es)
is_there x es = in_either event_either x es

-- start events of a run are one
pub one_start : (g : Grammar) (m : ℕ) (e : List Event) → IsRun g m e → (a b : List ℕ) → IsIn (Start a) e → IsIn (Start b) e → a ≡ b
one_start g m e run a b ha hb = go e run ha hb
  where
    go : (e : List Event) → IsRun g m e → IsIn (Start a) e → IsIn (Start b) e → a ≡ b
    go e run ha hb =
        let x = taken g m e [] (Start a) run ha in
        let y = taken g m e [] (Start b) run hb in
        let p : e ≡ Start a ∷ x.later = x.is ∙ ap (λ z. z ++ Start a ∷ x.later) x.extends.0 in
        let q : e ≡ Start b ∷ y.later = y.is ∙ ap (λ z. z ++ Start b ∷ y.later) y.extends.0 in
        let r : ◌≡◌ {A = List Event} (Start a ∷ x.later) (Start b ∷ y.later) = sym p ∙ q in
        (cc)

-- events of a run that are about the same are one
pub one_subject : (g : Grammar) (m : ℕ) (e : List Event) → IsRun g m e → (x y : Event) → IsIn x e → IsIn y e → same_subject x y ≡ true → x ≡ y
one_subject g m e run (Start a) (Start b) hx hy s = ap (λ z. Start z) (one_start g m e run a b hx hy)
one_subject g m e run (Start a) (Expand j q ms) hx hy s = absurd (true≢false (sym s))
one_subject g m e run (Expand i p ns) (Start b) hx hy s = absurd (true≢false (sym s))
one_subject g m e run (Expand i p ns) (Expand j q ms) hx hy s =
    let n : i ≡ j = same_bytes i j s in
    let a = (expansion_of g m e run i p ns hx).told in
    let b = (expansion_of g m e run j q ms hy).told in
    let c : ◌≡◌ {A = Option Expanded} (Some (record { production = p; names = ns })) (Some (record { production = q; names = ms })) = sym a ∙ (ap (expanded_by e) n ∙ b) in
    let d : ◌≡◌ {A = Expanded} (record { production = p; names = ns }) (record { production = q; names = ms }) = cc in
    λ t. Expand (n t) (d t).production (d t).names

longer : (c : List Event) (e : Event) → c ++ e ∷ [] ≡ [] → ⊥
longer [] e q = absurd (cc)
longer (d ∷ c) e q = absurd (cc)

no_start : (g : Grammar) (m : ℕ) (r : List ℕ) (c a : List Event) → (c ≡ [] → ⊥) → AllExtend g m c a → IsIn (Start r) a → ⊥
no_start g m r c [] n k w = w
no_start g m r c (y ∷ a) n k (inl w) = n (subst (Extends g m c) (sym w) k.0).0
no_start g m r c (y ∷ a) n k (inr w) = no_start g m r (c ++ y ∷ []) a (longer c y) k.1 w

-- no event stands twice in a run
pub events_differ : (g : Grammar) (m : ℕ) (b a : List Event) → AllExtend g m b a → AllDiffer a
events_differ g m b [] h = tt
events_differ g m b (Start r ∷ a) h = ((λ q. no_start g m r (b ++ Start r ∷ []) a (longer b (Start r)) h.1 q), events_differ g m (b ++ Start r ∷ []) a h.1)
events_differ g m b (Expand i p names ∷ a) h = ((λ q. twice q), events_differ g m (b ++ Expand i p names ∷ []) a h.1)
  where
    twice : IsIn (Expand i p names) a → ⊥
    twice q =
        let x = taken g m a (b ++ Expand i p names ∷ []) (Expand i p names) h.1 q in
        let here : expanded_by (b ++ Expand i p names ∷ []) i ≡ Some (record { production = p; names = names }) =
        expansion_later b (Expand i p names ∷ []) i h.0.open_end ∙ ap (λ t. cond {A = Option Expanded} t (Some (record { production = p; names = names })) None) (bytes_same i i refl) in
        let z = sym (expansion_kept (b ++ Expand i p names ∷ []) x.before i _ here) ∙ x.extends.open_end in
        absurd (cc)
