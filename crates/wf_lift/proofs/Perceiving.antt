-- The flags and rows that are made fit the lifted grammar, and their view perceives what the lifted view does.
use Rattle.std.proofs.Common.{◌≡◌, ℕ, ◌<◌, ◌≤◌, ◌^◌, ◌==◌, Bool, true, false, cond, nat_lt, List, [], length, get_or, refl, sym, ap, ◌∙◌, subst, arith}
use Rattle.std.specs.Int.{bit_at}
use Rattle.std.specs.List.{All}
use Rattle.std.proofs.lemmas.Bool.{ltb-true, ltb-false}
use Rattle.std.proofs.lemmas.List.{get_or_past}
use Rattle.std.proofs.lemmas.Nat.Bits.{bit_at-zero}
use Rattle.wf_model.specs.Grammar.{Grammar}
use Rattle.wf_model.specs.View.{View, expands, shows}
use Rattle.wf_model.specs.WellFormed.{IsWellFormed}
use Rattle.wf_model.specs.Links.{perceived}
use Rattle.wf_model.proofs.Composites.{composite_below}
use Rattle.wf_view.specs.FitRows.{FitGrammar, IsViewOfRows}
use Rattle.wf_view.specs.Held.{HeldView, IsHeldFor}
use Rattle.words_model.specs.Automata.{Automaton, IsAutomaton}
use Rattle.words_model.specs.Lifting.{lift, lift_view}
use Rattle.words_model.proofs.SameShape.{composite_there}
use Rattle.words_model.proofs.LiftedParts.{lifted_inputs, lifted_outputs, lifted_shape}
use Rattle.words_model.proofs.LiftedViews.{lifted_view_law}
use Rattle.wf_lift.specs.LiftedRows.{AreLiftedRows}
use Rattle.wf_lift.specs.Alike.{PerceiveAlike}

module _ (g : Grammar) (wf : IsWellFormed g) (v : HeldView) (held : IsHeldFor g v) (a : Automaton) (ia : IsAutomaton a) (flags : List Bool) (rows : List (List ℕ))
    (one_flag_each : length flags ≡ length g.modules) (flag_is : (m : ℕ) → m < length g.modules → get_or flags m false ≡ expands v.core m)
    (one_list_each : length rows ≡ length g.modules) (lifted : (m : ℕ) → m < length g.modules → AreLiftedRows g v.core a m (get_or rows m [])) where
  pub fit_lifted : FitGrammar (lift g a.states) flags rows
  fit_lifted =
      let shape = lifted_shape g a.states in
      record {
        one_flag_each = one_flag_each ∙ sym shape.modules;
        one_list_each = one_list_each ∙ sym shape.modules;
        each = λ m l0.
            let l : m < length g.modules = subst (λ n. m < n) shape.modules l0 in
            let is = flag_is m l in
            let r = lifted m l in
            record {
              composite = λ t. composite_there g (lift g a.states) shape m (held.is_view.expanded m (sym is ∙ t));
              none = λ t. r.none (sym is ∙ t);
              one_row_each = λ f. r.one_each (sym is ∙ f) ∙ sym (lifted_inputs g a.states m);
              no_more = λ f. subst (λ n. All (λ r. r < 2 ^ n) (get_or rows m [])) (sym (lifted_outputs g a.states m)) (r.no_more (sym is ∙ f));
            };
      }

  -- no module past the last is expanded
  pub flag_everywhere : (m : ℕ) → expands v.core m ≡ get_or flags m false
  flag_everywhere m = by (nat_lt m (length g.modules)) refl
    where
      none : length g.modules ≤ m → (b : Bool) → expands v.core m ≡ b → b ≡ false
      none past true e = absurd (let l = composite_below g wf m (held.is_view.expanded m e) in omega arith)
      none past false e = refl

      by : (b : Bool) → nat_lt m (length g.modules) ≡ b → expands v.core m ≡ get_or flags m false
      by true e = sym (flag_is m (ltb-true m (length g.modules) e))
      by false e =
          let past = ltb-false m (length g.modules) e in
          none past (expands v.core m) refl ∙ sym (get_or_past flags m false (subst (λ n. n ≤ m) (sym one_flag_each) past))

  module _ (u : View) (is : IsViewOfRows flags rows u) where
    -- what is shown of a module that is not expanded
    shown_same : (m i o : ℕ) → expands v.core m ≡ false → shows (lift_view a v.core) m i o ≡ shows u m i o
    shown_same m i o shut = by (nat_lt m (length g.modules)) refl
      where
        none : length g.modules ≤ m → (b : Bool) → shows (lift_view a v.core) m i o ≡ b → b ≡ false
        none past true e = absurd (let l = ((lifted_view_law g v.core a ia held.is_view).shown m i o e).0 in let n = (lifted_shape g a.states).modules in omega arith)
        none past false e = refl

        by : (b : Bool) → nat_lt m (length g.modules) ≡ b → shows (lift_view a v.core) m i o ≡ shows u m i o
        by true e = sym ((lifted m (ltb-true m (length g.modules) e)).bits shut i o) ∙ sym (is.shown m i o)
        by false e =
            let past = ltb-false m (length g.modules) e in
            none past (shows (lift_view a v.core) m i o) refl
            ∙ sym (is.shown m i o ∙ (ap (λ (l : List ℕ). bit_at (get_or l i 0) o == 1) (get_or_past rows m [] (subst (λ n. n ≤ m) (sym one_list_each) past)) ∙ ap (λ n. n == 1) (bit_at-zero o)))

    expanded_same : (m : ℕ) → expands (lift_view a v.core) m ≡ expands u m
    expanded_same m = flag_everywhere m ∙ sym (is.expanded m)

    pub lifted_alike : PerceiveAlike (lift_view a v.core) u
    lifted_alike = record { expanded = expanded_same; perceived = λ m i o. by m i o (expands v.core m) refl }
      where
        by : (m i o : ℕ) (b : Bool) → expands v.core m ≡ b → perceived (lift_view a v.core) m i o ≡ perceived u m i o
        by m i o true e = ap (λ b. cond b false (shows (lift_view a v.core) m i o)) e ∙ sym (ap (λ b. cond b false (shows u m i o)) (sym (expanded_same m) ∙ e))
        by m i o false e =
            ap (λ b. cond b false (shows (lift_view a v.core) m i o)) e ∙ (shown_same m i o e ∙ sym (ap (λ b. cond b false (shows u m i o)) (sym (expanded_same m) ∙ e)))
