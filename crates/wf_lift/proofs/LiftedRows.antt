-- The rows of the pairs of a module in each state are those of the lifted view.
use Rattle.std.proofs.Common.{◌≡◌, ℕ, ◌*◌, ◌^◌, ◌<◌, ◌≤◌, ◌==◌, Bool, true, false, cond, List, [], length, get_or, replicate, refl, sym, ap, ◌∙◌, arith, true≢false}
use Rattle.std.proofs.lemmas.List.Elements.{All-from_get_or}
use Rattle.wf_model.specs.Grammar.{Grammar, outputs_of}
use Rattle.wf_model.specs.View.{expands, shows}
use Rattle.wf_spec.specs.Rows.{bit_in, has_pair, AreAdded}
use Rattle.wf_view.specs.Held.{HeldView, IsHeldFor}
use Rattle.wf_view.proofs.Pairing.{nothing_set}
use Rattle.wf_view.proofs.Holding.{bits_below}
use Rattle.words_model.specs.Automata.{Automaton, IsAutomaton}
use Rattle.words_model.specs.Lifting.{lift_pairs, lift_view}
use Rattle.words_model.proofs.LiftedParts.{lifted_outputs}
use Rattle.words_model.proofs.LiftedViews.{lifted_view_law}
use Rattle.wf_lift.specs.RowPairs.{set_pairs}
use Rattle.wf_lift.specs.LiftedRows.{AreLiftedRows}
use Rattle.wf_lift.proofs.LiftedPairs.{lifted_shown}
use Rattle.wf_lift.proofs.SetPairs.{shown_are}

module _ (g : Grammar) (v : HeldView) (held : IsHeldFor g v) (a : Automaton) (ia : IsAutomaton a) (m : ℕ) (low : m < length g.modules) where
  -- what is expanded has no rows
  pub no_rows : expands v.core m ≡ true → AreLiftedRows g v.core a m []
  no_rows e = record {
    none = λ t. refl;
    one_each = λ f. absurd (true≢false (sym e ∙ f));
    no_more = λ f. absurd (true≢false (sym e ∙ f));
    bits = λ f. absurd (true≢false (sym e ∙ f));
  }

  -- past the outputs in all states the lifted view shows nothing
  not_past : (i o : ℕ) → outputs_of g m * a.states ≤ o → shows (lift_view a v.core) m i o ≡ false
  not_past i o past = by (shows (lift_view a v.core) m i o) refl
    where
      by : (b : Bool) → shows (lift_view a v.core) m i o ≡ b → b ≡ false
      by true e =
          let l = ((lifted_view_law g v.core a ia held.is_view).shown m i o e).2 in
          let n = lifted_outputs g a.states m in
          absurd (omega arith)
      by false e = refl

  module _ (rows new : List ℕ) (outs : ℕ) (shut : expands v.core m ≡ false) (shown : rows ≡ get_or v.rows m []) (count : outs ≡ outputs_of g m)
      (size : length new ≡ length rows * a.states) (added : AreAdded (lift_pairs a m (set_pairs rows outs)) (replicate (length rows * a.states) 0) new) where
    bit_is : (i o : ℕ) → bit_in new i o ≡ cond {A = ℕ} (shows (lift_view a v.core) m i o) 1 0
    bit_is i o =
        let same : (i o : ℕ) → has_pair (set_pairs rows outs) i o ≡ shows v.core m i o =
        λ i o. ap (λ n. has_pair (set_pairs rows n) i o) count ∙ (ap (λ l. has_pair (set_pairs l (outputs_of g m)) i o) shown ∙ shown_are g v.core m (get_or v.rows m []) held.is_view (held.rows m low shut) i o) in
        added i o ∙ (ap (cond {A = ℕ} (has_pair (lift_pairs a m (set_pairs rows outs)) i o) 1) (nothing_set (length rows * a.states) i o)
        ∙ ap (λ t. cond {A = ℕ} t 1 0) (lifted_shown a v.core m (set_pairs rows outs) same i o))

    tested : (b : Bool) → (cond {A = ℕ} b 1 0 == 1) ≡ b
    tested true = refl
    tested false = refl

    pub rows_made : AreLiftedRows g v.core a m new
    rows_made = record {
      none = λ t. absurd (true≢false (sym t ∙ shut));
      one_each = λ f. size ∙ ap (λ n. n * a.states) (ap length shown ∙ (held.rows m low shut).one_each);
      no_more = λ f. All-from_get_or (λ r. r < 2 ^ (outputs_of g m * a.states)) new 0
          (λ i l. bits_below (get_or new i 0) (outputs_of g m * a.states) (λ o past. bit_is i o ∙ ap (λ t. cond {A = ℕ} t 1 0) (not_past i o past)));
      bits = λ f i o. ap (λ n. n == 1) (bit_is i o) ∙ tested (shows (lift_view a v.core) m i o);
    }
