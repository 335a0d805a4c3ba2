-- The text that `check` writes of a strictly linear grammar.
use Rattle.std.specs.Prelude.{ℕ, List, ◌++◌, length, filter, flat_map, get_or, Option, Some, None, codes, decimal}
use Rattle.wf_model.specs.Lists.{numbers_from}
use Rattle.wf_model.specs.Composite.{is_composite}
use Rattle.wf_model.specs.Grammar.{Grammar, module_at}
use Rattle.wf_json.specs.Canonical.{canonical_of}
use Rattle.wf_check.specs.Proper.{Ranking}
use Rattle.wf_recur.specs.Cycles.{OnSeen, CyclesSeen}
use Rattle.grammar_text.specs.Texts.{step_text}

-- the composite modules, in order
abbrev pub composite_modules : Grammar → List ℕ
composite_modules g = filter (is_composite g) (numbers_from 0 (length g.modules))

-- where a module stands: `-` on no cycle; else the number of its cycle, its place there, and its continuing step
abbrev pub cycle_text : Grammar → Option OnSeen → List ℕ
cycle_text g None = codes " cycle -"
cycle_text g (Some o) = (codes " cycle " ++ decimal o.cycle) ++ ((codes " place " ++ decimal o.place) ++ step_text (codes " next ") g o.step)

-- the line of a composite module: its name, its rank, the production that attains the rank, and where it stands
abbrev pub check_line : Grammar → Ranking → CyclesSeen → ℕ → List ℕ
check_line g r c m =
    (module_at g m).name ++
    (codes " rank " ++ (decimal (get_or r.ranks m 0) ++ (codes " production " ++ (decimal (get_or r.choices m 0) ++ (cycle_text g (get_or c.on m None) ++ codes "\n")))))

-- the canonical text, a newline, and the lines of the composite modules
abbrev pub check_text_of : Grammar → Ranking → CyclesSeen → List ℕ
check_text_of g r c = canonical_of g ++ (codes "\n" ++ flat_map (check_line g r c) (composite_modules g))
