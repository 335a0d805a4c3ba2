-- The pairs of an instance that is not open are those that every expansion of its module joins.
use Rattle.std.proofs.Common.{◌≡◌, ℕ, ◌<◌, Bool, true, false, cond, length, refl, ap, sym, subst, ◌∙◌}
use Rattle.wf_model.specs.declared.numbers.Side.{Side}
use Rattle.wf_model.specs.declared.numbers.Side.TheVariants.{Input, Output}
use Rattle.wf_model.specs.Grammar.{Grammar, Assignment, inputs_of, outputs_of}
use Rattle.wf_model.specs.View.{View, expands, shows, IsSeenModule}
use Rattle.wf_model.specs.Safe.{IsInduced}
use Rattle.wf_safe.specs.SafeViews.{IsSafeView}
use Rattle.chain_model.specs.Chains.{unopened_pairs}
use Rattle.chain_model.proofs.ChainLaws.{seen_module}
use Rattle.wf_flat.specs.declared.graph.Port.{Port as PortHeld}
use Rattle.wf_flat.specs.Table.{IsTableOf}
use Rattle.wf_flat.specs.Graph.{inst_at}
use Rattle.wf_chain.specs.HeldItems.{side_names, module_of}
use Rattle.wf_chain.specs.ViewedRuns.{ViewedRunValue, grammar_in, view_in, full_in, events_in}
use Rattle.wf_chain.specs.Steps.{IsUnopened}

full_unopened : (g : Grammar) (u : View) (d : Assignment) → IsInduced g u d → (m : ℕ) → IsSeenModule g u m → (i o : ℕ) → i < inputs_of g m → o < outputs_of g m → d m i o ≡ unopened_pairs u d m i o
full_unopened g u d induced m seen i o h l = go (expands u m) refl
  where
    go : (b : Bool) → expands u m ≡ b → d m i o ≡ cond (expands u m) (d m i o) (shows u m i o)
    go true e = sym (ap (λ b. cond b (d m i o) (shows u m i o)) e)
    go false e = induced.shown m seen e i o h l ∙ sym (ap (λ b. cond b (d m i o) (shows u m i o)) e)

-- so it is for an input and an output of such an instance
pub full_joins : (v : ViewedRunValue) → IsTableOf (grammar_in v) v.run → IsSafeView v.viewed → (p q : PortHeld) → IsUnopened v Input p → IsUnopened v Output q → q.instance ≡ p.instance →
    full_in v (inst_at v.run.instances p.instance).module_no p.port.0 q.port.0 ≡ unopened_pairs (view_in v) (full_in v) (inst_at v.run.instances p.instance).module_no p.port.0 q.port.0
full_joins v run safe p q input output same =
    let n = inst_at v.run.instances p.instance in
    let seen = seen_module (grammar_in v) (view_in v) (events_in v) run.accepted.0 n input.port.seen in
    let low = subst (λ (s : Side). p.port.0 < length (side_names s (module_of (grammar_in v) v.run p.instance))) input.side input.port.in_range in
    let right = subst (λ k. q.port.0 < length (module_of (grammar_in v) v.run k).outputs) same (subst (λ (s : Side). q.port.0 < length (side_names s (module_of (grammar_in v) v.run q.instance))) output.side output.port.in_range) in
    full_unopened (grammar_in v) (view_in v) (full_in v) safe.full.induced n.module_no seen p.port.0 q.port.0 low right
