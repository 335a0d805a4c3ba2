-- An event of a run, with the events before it and after it.
use Rattle.std.proofs.Common.{◌≡◌, ℕ, ◌<◌, List, [], ◌∷◌, ◌++◌, cond, length, Option, Some, refl, sym, ap, ◌∙◌, subst, inl, inr, append_assoc, append-nil}
use Rattle.wf_model.specs.Lists.{IsIn}
use Rattle.wf_model.specs.Grammar.{Grammar, head_of}
use Rattle.wf_model.specs.declared.event.Event.{Event}
use Rattle.wf_model.specs.declared.event.Event.TheVariants.{Expand}
use Rattle.wf_model.specs.Run.{Expanded, made, expanded_by, Extends, AllExtend, IsRun}
use Rattle.wf_model.proofs.Lists.{in_append_left, bytes_same}
use Rattle.wf_model.proofs.Runs.{made-append, expansion_later}

-- an event of a run, with the events before it and after it
pub record IsTaken (g : Grammar) (m : ℕ) (b a : List Event) (e : Event) : Type 0 where
  pub before : List Event
  pub later : List Event
  pub is : a ≡ before ++ e ∷ later
  pub extends : Extends g m (b ++ before) e

pub taken : (g : Grammar) (m : ℕ) (a b : List Event) (e : Event) → AllExtend g m b a → IsIn e a → IsTaken g m b a e
taken g m [] b e x h = absurd h
taken g m (f ∷ a) b e x (inl q) = record {
  before = [];
  later = a;
  is = ap (λ z. z ∷ a) (sym q);
  extends = subst (λ z. Extends g m (b ++ []) z) (sym q) (subst (λ l. Extends g m l f) (sym (append-nil b)) x.0);
}
taken g m (f ∷ a) b e x (inr q) =
    let r = taken g m a (b ++ f ∷ []) e x.1 q in
    record { before = f ∷ r.before; later = r.later; is = ap (λ z. f ∷ z) r.is; extends = subst (λ l. Extends g m l e) (append_assoc b (f ∷ []) r.before) r.extends }

-- an expand event of a run: its instance is made, and is expanded so in the run
pub record IsExpansionOf (g : Grammar) (m : ℕ) (events : List Event) (i : List ℕ) (p : ℕ) (names : List (List ℕ)) : Type 0 where
  pub stands : IsIn (record { name = i; module_no = head_of g p }) (made g m events)
  pub told : expanded_by events i ≡ Some (record { production = p; names = names })
  pub in_range : p < length g.productions

pub expansion_of : (g : Grammar) (m : ℕ) (events : List Event) → IsRun g m events → (i : List ℕ) (p : ℕ) (names : List (List ℕ)) → IsIn (Expand i p names) events → IsExpansionOf g m events i p names
expansion_of g m events run i p names h =
    let t = taken g m events [] (Expand i p names) run h in
    let can = t.extends in
    let e = Expand i p names in
    record {
      stands = subst (λ l. IsIn (record { name = i; module_no = head_of g p }) (made g m l)) (sym t.is)
          (subst (λ l. IsIn (record { name = i; module_no = head_of g p }) l) (sym (made-append g m t.before (e ∷ t.later))) (in_append_left _ (made g m t.before) (made g m (e ∷ t.later)) can.stands));
      told = ap (λ l. expanded_by l i) t.is ∙ (expansion_later t.before (e ∷ t.later) i can.open_end ∙ ap (λ b. cond {A = Option Expanded} b (Some (record { production = p; names = names })) (expanded_by t.later i)) (bytes_same i i refl));
      in_range = can.in_range;
    }
