use Rattle.std.proofs.Common.{◌∙◌, sym, refl, inl, inr}
use Rattle.serde_json.specs.Find.{as_object}
use Rattle.serde_json.specs.View.{view}
use Rattle.wf_automaton.specs.Forms.{states_in, start_in, accept_in, moves_in}
use Rattle.wf_automaton.proofs.Formed.{formed, not_formed, not_found}
use Rattle.wf_automaton.proofs.reading.parts_in.Goals as goal

pub returns-then-not-is_object-clause-refused : goal.returns-then-not-is_object-clause-refused
returns-then-not-is_object-clause-refused c = inr (inl (0, not_found (as_object (view c.args.value.now)) c.is_object.result c.is_object.ensures c.if-not-is_object.true, refl))

pub returns-in_default-clause-refused : goal.returns-in_default-clause-refused
returns-in_default-clause-refused c =
    let d = view c.args.value.now in
    inr (inr (
      λ k h. sym c.is_object.ensures ∙ c.if-not-is_object.false,
      inl (0, not_formed (states_in d) c.in_ok-states.field-0 c.in_ok-states.ensures c.in_default.is, refl),
    ))

pub returns-in_default-2-clause-refused : goal.returns-in_default-2-clause-refused
returns-in_default-2-clause-refused c =
    let d = view c.args.value.now in
    inr (inr (
      λ k h. sym c.is_object.ensures ∙ c.if-not-is_object.false,
      inr (
        λ k h. formed (states_in d) c.in_ok-states.field-0 c.in-Some.states c.in_ok-states.ensures c.in-Some.is,
        inl (0, not_formed (start_in d) c.in_ok-start.field-0 c.in_ok-start.ensures c.in_default-2.is, refl),
      ),
    ))

pub returns-in_default-3-clause-refused : goal.returns-in_default-3-clause-refused
returns-in_default-3-clause-refused c =
    let d = view c.args.value.now in
    inr (inr (
      λ k h. sym c.is_object.ensures ∙ c.if-not-is_object.false,
      inr (
        λ k h. formed (states_in d) c.in_ok-states.field-0 c.in-Some.states c.in_ok-states.ensures c.in-Some.is,
        inr (
          λ k h. formed (start_in d) c.in_ok-start.field-0 c.in-Some-2.start c.in_ok-start.ensures c.in-Some-2.is,
          inl (0, not_formed (accept_in d) c.in_ok-accept.field-0 c.in_ok-accept.ensures c.in_default-3.is, refl),
        ),
      ),
    ))

pub returns-in_default-4-clause-refused : goal.returns-in_default-4-clause-refused
returns-in_default-4-clause-refused c =
    let d = view c.args.value.now in
    inr (inr (
      λ k h. sym c.is_object.ensures ∙ c.if-not-is_object.false,
      inr (
        λ k h. formed (states_in d) c.in_ok-states.field-0 c.in-Some.states c.in_ok-states.ensures c.in-Some.is,
        inr (
          λ k h. formed (start_in d) c.in_ok-start.field-0 c.in-Some-2.start c.in_ok-start.ensures c.in-Some-2.is,
          inr (
            λ k h. formed (accept_in d) c.in_ok-accept.field-0 c.in-Some-3.accept c.in_ok-accept.ensures c.in-Some-3.is,
            inl (0, not_formed (moves_in d) c.in_ok-moves.field-0 c.in_ok-moves.ensures c.in_default-4.is, refl),
          ),
        ),
      ),
    ))

pub returns-clause-ok : goal.returns-clause-ok
returns-clause-ok c = record {
  object = sym c.is_object.ensures ∙ c.if-not-is_object.false;
  states = sym c.in_ok-states.ensures ∙ c.in-Some.is;
  start = sym c.in_ok-start.ensures ∙ c.in-Some-2.is;
  accept = sym c.in_ok-accept.ensures ∙ c.in-Some-3.is;
  moves = sym c.in_ok-moves.ensures ∙ c.in-Some-4.is;
}
