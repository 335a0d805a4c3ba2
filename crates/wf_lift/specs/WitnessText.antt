-- How a witness that a lifted view is not safe is told: by the ports before lifting and their states.
use Rattle.std.specs.Prelude.{ℕ, ◌/◌, ◌%◌, List, ◌++◌, codes, decimal}
use Rattle.wf_model.specs.Grammar.{Grammar}
use Rattle.grammar_text.specs.Names.{input_name, output_name}
use Rattle.wf_safe.specs.declared.witness.Witness.{Witness}
use Rattle.wf_safe.specs.WitnessText.{productions_text, joined_choice_text}

-- the port in the state s has the number port * k + s: the port that a number in k states is of
abbrev pub port_before : ℕ → ℕ → ℕ
port_before k n = n / k

-- and its state
abbrev pub state_of : ℕ → ℕ → ℕ
state_of k n = n % k

-- a word, the name of a port, and a state
abbrev pub port_text : List ℕ → List ℕ → ℕ → List ℕ
port_text word name state = (word ++ name) ++ (codes " state " ++ decimal state)

-- the pair of a witness in the lifted grammar of a grammar and k states: the names of the ports before lifting, and their states
abbrev pub lifted_ports_text : Grammar → ℕ → Witness → List ℕ
lifted_ports_text g k w =
    port_text (codes " input ") (input_name g w.«module».0 (port_before k w.input.0)) (state_of k w.input.0) ++
    port_text (codes " output ") (output_name g w.«module».0 (port_before k w.output.0)) (state_of k w.output.0)

-- why a lifted view is not safe: as of any view, but for the ports
abbrev pub lifted_unsafe_text : Grammar → ℕ → Witness → List ℕ
lifted_unsafe_text g k w = productions_text g w ++ (lifted_ports_text g k w ++ joined_choice_text g w)
