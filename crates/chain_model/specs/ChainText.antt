-- The text of a chain of items.
use Rattle.std.specs.Prelude.{ℕ, List, ◌++◌, flat_map, codes}
use Rattle.wf_model.specs.Items.{Item}
use Rattle.chain_model.specs.Chains.{ChainStep}

-- the line of an item: its name
abbrev pub name_line : Item → List ℕ
name_line t = t.name ++ codes "\n"

-- the lines of a step: the word `via` with the name of the instance, and the item
abbrev pub step_lines : ChainStep → List ℕ
step_lines s = codes "via " ++ (s.via.name ++ (codes "\n" ++ name_line s.item))

-- the text of a chain: the line of its first item, then the lines of each step
abbrev pub chain_text : Item → List ChainStep → List ℕ
chain_text x steps = name_line x ++ flat_map step_lines steps
