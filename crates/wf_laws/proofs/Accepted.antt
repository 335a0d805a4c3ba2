-- Accepted and finished runs, by computation: for worked examples.
use Rattle.std.proofs.Common.{◌≡◌, ℕ, Bool, true, false, ◌&&◌, ◌||◌, not, is_some, List, [], ◌∷◌, ◌++◌, Option, Some, None, sym, subst, ⊎_elim, arith, true≢false}
use Rattle.std.proofs.lemmas.Bool.{and_parts}
use Rattle.wf_model.specs.Lists.{IsIn}
use Rattle.wf_model.specs.Grammar.{Grammar}
use Rattle.wf_model.specs.View.{View, expands}
use Rattle.wf_model.specs.declared.event.Event.{Event}
use Rattle.wf_model.specs.Run.{Instance, Expanded, IsAccepted, IsFinished, seen_in, expanded_by}
use Rattle.wf_model.specs.Faults.{fault_of}
use Rattle.wf_model.proofs.Taking.{taking_law}

pub none_taken : (g : Grammar) (most : ℕ) → IsAccepted g most []
none_taken g most = (tt, omega arith, λ n i. absurd i)

pub taken : (g : Grammar) (most : ℕ) (before : List Event) (e : Event) → IsAccepted g most before → fault_of g most before e ≡ None → IsAccepted g most (before ++ e ∷ [])
taken g most before e a h = (taking_law g most before e a).0 h

-- none of these instances is pending
abbrev pub none_pending : View → List Event → List Instance → Bool
none_pending u events [] = true
none_pending u events (i ∷ is) = (not (expands u i.module_no) || is_some (expanded_by events i.name)) && none_pending u events is

pub finished : (g : Grammar) (u : View) (m : ℕ) (events : List Event) → none_pending u events (seen_in g u m events) ≡ true → IsFinished g u m events
finished g u m events h i pending = go (expands u i.module_no) pending.1 (expanded_by events i.name) pending.2 (at (seen_in g u m events) h pending.0)
  where
    at : (is : List Instance) → none_pending u events is ≡ true → IsIn i is → (not (expands u i.module_no) || is_some (expanded_by events i.name)) ≡ true
    at [] h j = absurd j
    at (k ∷ is) h j =
        let p = and_parts (not (expands u k.module_no) || is_some (expanded_by events k.name)) (none_pending u events is) h in
        ⊎_elim (λ e. subst (λ (z : Instance). (not (expands u z.module_no) || is_some (expanded_by events z.name)) ≡ true) (sym e) p.0) (λ q. at is p.1 q) j

    go : (b : Bool) → b ≡ true → (o : Option Expanded) → o ≡ None → (not b || is_some o) ≡ true → ⊥
    go false e o n h = true≢false (sym e)
    go true e None n h = true≢false (sym h)
    go true e (Some x) n h = absurd (cc)
