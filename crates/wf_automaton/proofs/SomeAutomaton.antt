-- Bytes describe an automaton, or have a fault.
use Rattle.std.proofs.Common.{◌≡◌, ◌⊎◌, ℕ, ◌*◌, ◌<◌, List, Option, Some, None, map, length, get_or, take, refl, sym, ap, inl, inr, ⊎_elim, arith, true≢false}
use Rattle.std.specs.Prelude.{is_some, IsSome}
use Rattle.serde_json.specs.Data.{Data}
use Rattle.serde_json.specs.Find.{as_object}
use Rattle.wf_json.specs.Reading.{IsReading}
use Rattle.wf_json.proofs.Readings.{some_reading}
use Rattle.wf_model.specs.Grammar.{Grammar}
use Rattle.wf_model.proofs.Deciding.{Either, either_same, either_not, either_both, test_either, number_either, below_either, within_either, bytes_either, in_either}
use Rattle.wf_spec.specs.Naming.{names_of}
use Rattle.wf_spec.specs.FirstFaults.{AllHold}
use Rattle.wf_spec.proofs.SomeFault.{AreDecided, each_decided, some_fault}
use Rattle.words_model.specs.Automata.{Automaton, Move}
use Rattle.wf_automaton.specs.declared.parts.AutoParts.{AutoParts}
use Rattle.wf_automaton.specs.declared.fault.AutoFault.{AutoFault}
use Rattle.wf_automaton.specs.declared.fault.AutoFault.TheVariants.{NotJson}
use Rattle.wf_automaton.specs.Forms.{states_in, start_in, accept_in, moves_in, form_rules, SaysParts}
use Rattle.wf_automaton.specs.Rules.{move_of, automaton_of, auto_rules, move_keys, IsNewMoveAt, IsMoveBelow, IsMoveOf, HasFewPortsIn, TellsAutomaton, IsAutoFault}

-- what is there is a value
value_of : {A : Type 0} (o : Option A) → IsSome o → (x : A) × (o ≡ Some x)
value_of None h = absurd (true≢false (sym h))
value_of (Some x) h = (x, refl)

form_decided : (d : Data) → AreDecided (form_rules d)
form_decided d = (
  λ k h. test_either (is_some (as_object d)),
  (
    λ k h. test_either (is_some (states_in d)),
    (λ k h. test_either (is_some (start_in d)), (λ k h. test_either (is_some (accept_in d)), (λ k h. test_either (is_some (moves_in d)), tt))),
  ),
)

-- a value that keeps the rules on its form says parts
parts_said : (d : Data) → AllHold (form_rules d) → (p : AutoParts) × SaysParts d p
parts_said d all =
    let states = value_of (states_in d) (all.1.0 0 (omega arith)) in
    let start = value_of (start_in d) (all.1.1.0 0 (omega arith)) in
    let accept = value_of (accept_in d) (all.1.1.1.0 0 (omega arith)) in
    let moves = value_of (moves_in d) (all.1.1.1.1.0 0 (omega arith)) in (
      record { states = states.0; start = start.0; accept = accept.0; moves = moves.0 },
      record { object = all.0 0 (omega arith); states = states.1; start = start.1; accept = accept.1; moves = moves.1 },
    )

-- two keys of moves are one, or not
key_either : (a b : ℕ × ℕ) → Either (a ≡ b)
key_either a b =
    either_same (λ e i. (e.0 i, e.1 i)) (λ e. (ap (λ (x : ℕ × ℕ). x.0) e, ap (λ (x : ℕ × ℕ). x.1) e)) (either_both (number_either a.0 b.0) (number_either a.1 b.1))

new_move_either : (moves : List Move) (k : ℕ) → Either (IsNewMoveAt moves k)
new_move_either moves k = either_not (in_either key_either (get_or (move_keys moves) k (0, 0)) (take k (move_keys moves)))

auto_decided : (g : Grammar) (p : AutoParts) → AreDecided (auto_rules g p)
auto_decided g p = (
  λ k h. either_both (below_either 0 p.states) (within_either p.states 64),
  (
    λ k h. below_either p.start p.states,
    (
      λ k h. each_decided (λ s. s < p.states) p.accept (λ s i. below_either s p.states) k,
      (
        λ k h. each_decided (IsMoveBelow p.states) p.moves (λ v i. either_both (below_either v.from p.states) (below_either v.to p.states)) k,
        (
          λ k h. each_decided (IsMoveOf g) p.moves (λ v i. in_either bytes_either v.«module» (names_of g.modules)) k,
          (
            λ k h. new_move_either (map (move_of g) p.moves) k,
            (
              λ k h. each_decided (HasFewPortsIn p.states) g.modules (λ m i. either_both (within_either (length m.inputs * p.states) 64) (within_either (length m.outputs * p.states) 64)) k,
              tt,
            ),
          ),
        ),
      ),
    ),
  ),
)

-- parts describe an automaton, or break a rule
of_parts : (g : Grammar) (bytes : List ℕ) (d : Data) → IsReading bytes d → (p : AutoParts) → SaysParts d p → ((a : Automaton) × TellsAutomaton g bytes a) ⊎ ((f : AutoFault) × IsAutoFault g bytes f)
of_parts g bytes d r p said =
    ⊎_elim (λ all. inl (automaton_of g p, (p, (d, r, said), all, refl))) (λ f. inr (f.0, inr (p, (d, r, said), f.1))) (some_fault (auto_rules g p) (auto_decided g p))

pub some_automaton : (g : Grammar) (bytes : List ℕ) → ((a : Automaton) × TellsAutomaton g bytes a) ⊎ ((f : AutoFault) × IsAutoFault g bytes f)
some_automaton g bytes = ⊎_elim
    (λ r. ⊎_elim (λ all. let said = parts_said r.0 all in of_parts g bytes r.0 r.1 said.0 said.1) (λ f. inr (f.0, inl (inr (r.0, r.1, f.1)))) (some_fault (form_rules r.0) (form_decided r.0)))
    (λ none. inr (NotJson, inl (inl (none, refl)))) (some_reading bytes)
