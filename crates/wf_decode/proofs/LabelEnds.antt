-- The ends of the item of a label, from what was read of it.
use Rattle.std.proofs.Common.{◌≡◌, ℕ, ◌+◌, ◌<◌, false, List, [], ◌∷◌, ◌++◌, map, length, get_or, take, refl, sym, ap, ◌∙◌, subst, arith}
use Rattle.std.proofs.lemmas.List.{length-map, get_or-map}
use Rattle.wf_model.specs.Lists.{IsAt}
use Rattle.wf_model.specs.Grammar.{production_at, body_of, inputs_of, outputs_of}
use Rattle.wf_model.specs.View.{View}
use Rattle.wf_model.specs.Reach.{target_of}
use Rattle.wf_model.specs.Meaning.{edge_of}
use Rattle.wf_model.specs.declared.body.Step.{Step as StepHeld}
use Rattle.wf_model.specs.declared.body.Edge.{Edge as EdgeHeld}
use Rattle.wf_model.specs.declared.body.Inner.{Inner as InnerHeld}
use Rattle.wf_model.specs.declared.numbers.Side.{Side}
use Rattle.wf_model.specs.declared.numbers.Side.TheVariants.{Input as InputSide, Output as OutputSide}
use Rattle.wf_model.proofs.Lists.{is_at, at_in, at_is, at_below}
use Rattle.label_model.specs.Labels.{Label, Input, Output, IsLabel}
use Rattle.wf_recur.specs.Cycles.{step_of}
use Rattle.decode_model.proofs.Rounds.{module_along-append}
use Rattle.verdict_model.specs.Telling.{Tells, ConsumedAt, ProducedAt}
use Rattle.verdict_model.specs.Verdicts.{IsHidden}
use Rattle.verdict_model.proofs.Hiding.{input_shown, output_shown}
use Rattle.wf_vlabel.specs.Seen.{ViewLabelSeen, IsViewLabel}
use Rattle.wf_decode.specs.declared.leg.Leg.{Leg as LegHeld}
use Rattle.wf_decode.specs.declared.leg.Leg.TheVariants.{Into as IntoHeld}
use Rattle.wf_decode.specs.HeldLegs.{AreHeld, held_steps}
use Rattle.wf_decode.specs.Reading.{IsEdgeTold}
use Rattle.wf_decode.specs.declared.decision.ends.ModulePort.{ModulePort}
use Rattle.wf_decode.specs.declared.decision.ends.End.TheVariants.{At, Nowhere}
use Rattle.wf_decode.specs.Ends.{AreLegsAt, IsConsumedTold, IsProducedTold, IsEndOn, end_of_edge}

module _ (l : ViewLabelSeen) (u : View) (x : Label) where
  root_legs : (m : ℕ) (legs : List LegHeld) → m ≡ l.grammar.start → AreLegsAt l u [] m (take 0 legs)
  root_legs m legs e = record { held = refl; steps = refl; open_route = tt; module_is = e }

  -- an input of the root is consumed there
  input_told : (p m : ℕ) (legs : List LegHeld) → x ≡ Input p → IsLabel l.grammar x → m ≡ l.grammar.start → IsConsumedTold l u x 0 m p legs
  input_told p m legs e h is =
      record {
        address = [];
        consumed = subst (λ z. ConsumedAt l.grammar z [] p) (sym e) (refl, refl);
        shown = subst (λ z. IsHidden l.grammar u z → ⊥) (sym e) (input_shown l.grammar u p);
        room = omega arith;
        in_range = subst (λ z. p < inputs_of l.grammar z) (sym is) (subst (IsLabel l.grammar) e h);
        legs_at = root_legs m legs is;
      }

  -- and an output of the root is produced there
  output_told : (p m : ℕ) (legs : List LegHeld) → x ≡ Output p → IsLabel l.grammar x → m ≡ l.grammar.start → IsProducedTold l u x 0 m p legs
  output_told p m legs e h is =
      record {
        address = [];
        produced = subst (λ z. ProducedAt l.grammar z [] p) (sym e) (refl, refl);
        shown = subst (λ z. IsHidden l.grammar u z → ⊥) (sym e) (output_shown l.grammar u p);
        room = omega arith;
        in_range = subst (λ z. p < outputs_of l.grammar z) (sym is) (subst (IsLabel l.grammar) e h);
        legs_at = root_legs m legs is;
      }

  -- so on either side a port of the root is an end, or the item ends nowhere
  pub input_ends : (side : Side) (p : ℕ) (at : ModulePort) (legs : List LegHeld) → side ≡ InputSide → x ≡ Input p → IsLabel l.grammar x → at.module.0 ≡ l.grammar.start → at.port.0 ≡ p → IsEndOn side l u x (At 0 at) legs
  input_ends side p at legs s e h there port = subst (λ z. IsEndOn z l u x (At 0 at) legs) (sym s) (subst (λ z. IsConsumedTold l u x 0 at.module.0 z legs) (sym port) (input_told p at.module.0 legs e h there))

  pub output_ends : (side : Side) (p : ℕ) (at : ModulePort) (legs : List LegHeld) → side ≡ OutputSide → x ≡ Output p → IsLabel l.grammar x → at.module.0 ≡ l.grammar.start → at.port.0 ≡ p → IsEndOn side l u x (At 0 at) legs
  output_ends side p at legs s e h there port = subst (λ z. IsEndOn z l u x (At 0 at) legs) (sym s) (subst (λ z. IsProducedTold l u x 0 at.module.0 z legs) (sym port) (output_told p at.module.0 legs e h there))

  pub input_nowhere : (side : Side) (p : ℕ) (legs : List LegHeld) → side ≡ OutputSide → x ≡ Input p → IsEndOn side l u x Nowhere legs
  input_nowhere side p legs s e = subst (λ z. IsEndOn z l u x Nowhere legs) (sym s) (p, e)

  pub output_nowhere : (side : Side) (p : ℕ) (legs : List LegHeld) → side ≡ InputSide → x ≡ Output p → IsEndOn side l u x Nowhere legs
  output_nowhere side p legs s e = subst (λ z. IsEndOn z l u x Nowhere legs) (sym s) (p, e)

  module _ (is : IsViewLabel l) (n p e : ℕ) (legs : List LegHeld) (told : IsEdgeTold l u x n p e legs) where
    pub production_below : p < length l.grammar.productions
    production_below = told.tells.ending.of_it.0

    -- the legs to a position of the production
    step_legs : (later : List LegHeld) (s : StepHeld) (m : ℕ) → s.production.0 ≡ p → s.position.0 < length (body_of l.grammar p) → m ≡ target_of l.grammar (step_of s) → take (n + 1) later ≡ take n legs ++ IntoHeld s ∷ [] →
        AreLegsAt l u (told.address ++ step_of s ∷ []) m (take (n + 1) later)
    step_legs later s m same low at held =
        let g = l.grammar in
        let to = told.legs_to s same low in
        record {
          held = subst (AreHeld l g.start false) (sym held) to.held;
          steps = ap (held_steps l) held ∙ to.steps;
          open_route = to.open_route;
          module_is = at ∙ sym (module_along-append g g.start told.address (step_of s ∷ []));
        }

    module _ (es : List EdgeHeld) (are : map edge_of es ≡ (production_at l.grammar p).edges) where
      pub edge_below : e < length es
      edge_below = let low = told.tells.ending.edge in let n = ap length are in let k = length-map es edge_of in omega arith

    module _ (es : List EdgeHeld) (d : EdgeHeld) (are : map edge_of es ≡ (production_at l.grammar p).edges) where
      edge_at : IsAt (edge_of (get_or es e d)) e (production_at l.grammar p).edges
      edge_at =
          let same = ap (λ z. get_or z e (edge_of d)) (sym are) ∙ get_or-map edge_of es e d (edge_of d) (edge_below es are) in
          subst (λ z. IsAt z e (production_at l.grammar p).edges) same (is_at e (production_at l.grammar p).edges (edge_of d) told.tells.ending.edge)

      to_below : (get_or es e d).to.pos.0 < length (body_of l.grammar p)
      to_below =
          let i = (is.formed.bodies p production_below).edges_to (edge_of (get_or es e d)) (at_in (edge_of (get_or es e d)) e (production_at l.grammar p).edges edge_at) in
          at_below i.0 (get_or es e d).to.pos.0 (body_of l.grammar p) i.1

      from_below : (get_or es e d).from.pos.0 < length (body_of l.grammar p)
      from_below =
          let i = (is.formed.bodies p production_below).edges_from (edge_of (get_or es e d)) (at_in (edge_of (get_or es e d)) e (production_at l.grammar p).edges edge_at) in
          at_below i.0 (get_or es e d).from.pos.0 (body_of l.grammar p) i.1

      -- the end of the edge on a side is at a position of the body
      pub end_below : (side : Side) (i : InnerHeld) → i ≡ end_of_edge (get_or es e d) side → i.pos.0 < length (body_of l.grammar p)
      end_below InputSide i q = subst (λ (z : InnerHeld). z.pos.0 < length (body_of l.grammar p)) (sym q) to_below
      end_below OutputSide i q = subst (λ (z : InnerHeld). z.pos.0 < length (body_of l.grammar p)) (sym q) from_below

      module _ (later : List LegHeld) (s : StepHeld) (m : ℕ) (same : s.production.0 ≡ p) (at : m ≡ target_of l.grammar (step_of s)) (held : take (n + 1) later ≡ take n legs ++ IntoHeld s ∷ []) (kept : length later ≡ length legs) where
        -- the item of an edge is consumed at the position to which the edge leads
        edge_consumed : s.position.0 ≡ (get_or es e d).to.pos.0 → IsConsumedTold l u x (n + 1) m (get_or es e d).to.port.0 later
        edge_consumed place =
            let g = l.grammar in
            let edge = edge_of (get_or es e d) in
            let i = (is.formed.bodies p production_below).edges_to edge (at_in edge e (production_at g p).edges edge_at) in
            let step : step_of s ≡ record { production = p; position = edge.to.position } = λ k. record { production = same k; position = place k } in
            let there : m ≡ i.0 = at ∙ (ap (target_of g) step ∙ at_is i.0 edge.to.position (body_of g p) 0 i.1) in
            let tells = subst (λ z. Tells g z told.address p e) told.tells.is told.tells in
            let room = told.room in
            record {
              address = told.address ++ step_of s ∷ [];
              consumed = subst (λ z. ConsumedAt g z (told.address ++ step_of s ∷ []) edge.to.port) (sym told.tells.is) (told.address, p, e, edge, tells, edge_at, ap (λ z. told.address ++ z ∷ []) step, refl);
              shown = told.shown;
              room = omega arith;
              in_range = subst (λ z. edge.to.port < inputs_of g z) (sym there) i.2;
              legs_at = step_legs later s m same (subst (λ z. z < length (body_of g p)) (sym place) to_below) at held;
            }

        -- and produced at the position from which it leads
        edge_produced : s.position.0 ≡ (get_or es e d).from.pos.0 → IsProducedTold l u x (n + 1) m (get_or es e d).from.port.0 later
        edge_produced place =
            let g = l.grammar in
            let edge = edge_of (get_or es e d) in
            let i = (is.formed.bodies p production_below).edges_from edge (at_in edge e (production_at g p).edges edge_at) in
            let step : step_of s ≡ record { production = p; position = edge.from.position } = λ k. record { production = same k; position = place k } in
            let there : m ≡ i.0 = at ∙ (ap (target_of g) step ∙ at_is i.0 edge.from.position (body_of g p) 0 i.1) in
            let tells = subst (λ z. Tells g z told.address p e) told.tells.is told.tells in
            let room = told.room in
            record {
              address = told.address ++ step_of s ∷ [];
              produced = subst (λ z. ProducedAt g z (told.address ++ step_of s ∷ []) edge.from.port) (sym told.tells.is) (told.address, p, e, edge, tells, edge_at, ap (λ z. told.address ++ z ∷ []) step, refl);
              shown = told.shown;
              room = omega arith;
              in_range = subst (λ z. edge.from.port < outputs_of g z) (sym there) i.2;
              legs_at = step_legs later s m same (subst (λ z. z < length (body_of g p)) (sym place) from_below) at held;
            }

        -- so it ends on either side at the end of the edge
        pub edge_ends : (side : Side) (i : InnerHeld) (at : ModulePort) → i ≡ end_of_edge (get_or es e d) side → s.position.0 ≡ i.pos.0 → at.module.0 ≡ m → at.port.0 ≡ i.port.0 → IsEndOn side l u x (At (n + 1) at) later
        edge_ends InputSide i at q place there port =
            subst (λ z. IsConsumedTold l u x (n + 1) at.module.0 z later) (sym (port ∙ ap (λ (z : InnerHeld). z.port.0) q))
            (subst (λ z. IsConsumedTold l u x (n + 1) z (get_or es e d).to.port.0 later) (sym there) (edge_consumed (place ∙ ap (λ (z : InnerHeld). z.pos.0) q)))
        edge_ends OutputSide i at q place there port =
            subst (λ z. IsProducedTold l u x (n + 1) at.module.0 z later) (sym (port ∙ ap (λ (z : InnerHeld). z.port.0) q))
            (subst (λ z. IsProducedTold l u x (n + 1) z (get_or es e d).from.port.0 later) (sym there) (edge_produced (place ∙ ap (λ (z : InnerHeld). z.pos.0) q)))
