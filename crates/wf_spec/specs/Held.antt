-- Grammars and productions as the program holds them.
use Rattle.std.specs.Prelude.{ℕ, ◌≤◌, List, map, length}
use Rattle.wf_model.specs.Lists.{IsIn}
use Rattle.wf_model.specs.Grammar.{Grammar, Module, Production, Given}
use Rattle.wf_model.specs.Versions.{IsVersion}
use Rattle.wf_spec.specs.declared.version.Version.{Version}

-- a production, and its alternative number: its place among those of its head
pub record HeldProduction : Type 0 where
  pub core : Production
  pub alternative : ℕ

-- a grammar, of which all definitions speak, and its earlier versions
pub record HeldGrammar : Type 0 where
  pub core : Grammar
  pub versions : List Version

-- at most 64 earlier versions of a grammar
pub record AreVersionsOf (g : Grammar) (versions : List Version) : Type 0 where
  pub few : length versions ≤ 64
  pub each : (v : Version) → IsIn v versions → IsVersion g v.modules v.productions

-- the grammar of these lists
abbrev pub grammar_of_lists : ℕ → List Module → List Production → List Given → Grammar
grammar_of_lists start modules productions given = record { start = start; modules = modules; productions = productions; given = given }

-- the grammar of its lists, as they are held
abbrev pub core_of : ℕ → List Module → List HeldProduction → List Given → Grammar
core_of start modules productions given = grammar_of_lists start modules (map (λ p. p.core) productions) given
