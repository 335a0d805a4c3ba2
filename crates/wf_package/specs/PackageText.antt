-- The text of a package: one line of JSON without spaces.
use Rattle.std.specs.Prelude.{◌≡◌, ℕ, List, ◌++◌, codes, decimal}
use Rattle.wf_model.specs.Grammar.{Grammar, Given}
use Rattle.wf_model.specs.View.{View}
use Rattle.wf_json.specs.Canonical.{text_in_quotes, list_of, pair_text, members_of}
use Rattle.package_model.specs.Shown.{AreSeen, Shown, shown_of}
use Rattle.package_model.specs.Packages.{LoopEntry, numbered, module_name, package_of, loops_of}

-- a pair of an input and an output, by their names
abbrev pub named_pair : ℕ × ℕ → List ℕ
named_pair e = pair_text (text_in_quotes (numbered 105 e.0)) (text_in_quotes (numbered 111 e.1))

-- the pairs that are given to a module, with its members `module` and `pairs`
abbrev pub given_text : Given → List ℕ
given_text d =
    codes "{\"module\":" ++ text_in_quotes (module_name d.module_no)
    ++ codes ",\"pairs\":" ++ list_of named_pair d.pairs
    ++ codes "}"

-- an entry of the loops, as ["module",production,position]
abbrev pub loop_text : LoopEntry → List ℕ
loop_text e =
    codes "[" ++ text_in_quotes e.module_name
    ++ codes "," ++ decimal e.step.production
    ++ codes "," ++ decimal e.step.position
    ++ codes "]"

-- the text of a grammar with loops: the number of the form, the members of the grammar as its canonical text has them, the pairs that are given, and the loops
abbrev pub text_with_loops : Grammar → List LoopEntry → List ℕ
text_with_loops g entries =
    codes "{\"package\":1," ++ members_of g
    ++ codes ",\"deps\":" ++ list_of given_text g.given
    ++ codes ",\"loops\":" ++ list_of loop_text entries
    ++ codes "}\n"

-- the text of the package of what is shown
abbrev pub package_text : Shown → List ℕ
package_text s = text_with_loops (package_of s) (loops_of s)

-- the text of the package of a view: that of what it shows
abbrev pub IsPackageText : Grammar → View → List ℕ → Type 0
IsPackageText g u text = (ms : List ℕ) × (ps : List ℕ) × AreSeen g u ms ps × (text ≡ package_text (shown_of g u ms ps))
