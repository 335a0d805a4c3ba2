-- The pieces in which the text of a package is put.
use Rattle.std.proofs.Common.{◌≡◌, ℕ, ◌+◌, Bool, true, false, cond, List, [], ◌∷◌, ◌++◌, length, drop, get_or, codes, decimal, refl, sym, ap, ◌∙◌, subst, append_assoc, arith}
use Rattle.std.specs.Prelude.{◌==◌}
use Rattle.std.specs.List.{join_by}
use Rattle.wf_model.specs.Lists.{numbers_from}
use Rattle.wf_model.specs.Grammar.{Grammar, Given}
use Rattle.wf_json.specs.Canonical.{list_of, members_of}
use Rattle.wf_json.specs.Writing.{Takes}
use Rattle.wf_json.proofs.Joined.{join_by-more, join_by-by_number}
use Rattle.wf_json.proofs.Taken.{behind, renamed}
use Rattle.package_model.specs.Packages.{LoopEntry, module_name}
use Rattle.wf_package.specs.PackageText.{named_pair, given_text, loop_text, text_with_loops}

pair_pieces : (i o : List ℕ) → ((codes "[\"i" ++ i) ++ (codes "\",\"o" ++ o)) ++ codes "\"]" ≡ codes "[" ++ (codes "\"" ++ (105 ∷ i) ++ codes "\"") ++ codes "," ++ (codes "\"" ++ (111 ∷ o) ++ codes "\"") ++ codes "]"
pair_pieces i o = grind (arith, append_assoc {A = ℕ})

part_pieces : (m ps : List ℕ) → (((codes "{\"module\":\"m" ++ m) ++ codes "\",\"pairs\":[") ++ ps) ++ codes "]}" ≡ codes "{\"module\":" ++ (codes "\"" ++ (109 ∷ m) ++ codes "\"") ++ codes ",\"pairs\":" ++ (codes "[" ++ ps ++ codes "]") ++ codes "}"
part_pieces m ps = grind (arith, append_assoc {A = ℕ})

loop_pieces : (m p q : List ℕ) → (((codes "[\"m" ++ m) ++ (codes "\"," ++ p)) ++ (codes "," ++ q)) ++ codes "]" ≡ codes "[" ++ (codes "\"" ++ (109 ∷ m) ++ codes "\"") ++ codes "," ++ p ++ codes "," ++ q ++ codes "]"
loop_pieces m p q = grind (arith, append_assoc {A = ℕ})

-- the text of a package is put
pub package_pieces : (ms gs ls : List ℕ) → (((((codes "{\"package\":1," ++ ms) ++ codes ",\"deps\":[") ++ gs) ++ codes "],\"loops\":[") ++ ls) ++ codes "]}\n" ≡
    codes "{\"package\":1," ++ ms ++ codes ",\"deps\":" ++ (codes "[" ++ gs ++ codes "]") ++ codes ",\"loops\":" ++ (codes "[" ++ ls ++ codes "]") ++ codes "}\n"
package_pieces ms gs ls = grind (arith, append_assoc {A = ℕ})

-- a pair of a list is put, behind a comma or first
pub pair_put : (b : Bool) (i o : List ℕ) → ((cond b (drop 1 (codes ",[\"i")) (codes ",[\"i") ++ i) ++ (codes "\",\"o" ++ o)) ++ codes "\"]" ≡
    cond b [] (codes ",") ++ (codes "[" ++ (codes "\"" ++ (105 ∷ i) ++ codes "\"") ++ codes "," ++ (codes "\"" ++ (111 ∷ o) ++ codes "\"") ++ codes "]")
pair_put true i o = pair_pieces i o
pair_put false i o = ap (λ l. 44 ∷ l) (pair_pieces i o)

-- so is what is given to a module
pub part_put : (b : Bool) (m ps : List ℕ) → (((cond b (drop 1 (codes ",{\"module\":\"m")) (codes ",{\"module\":\"m") ++ m) ++ codes "\",\"pairs\":[") ++ ps) ++ codes "]}" ≡
    cond b [] (codes ",") ++ (codes "{\"module\":" ++ (codes "\"" ++ (109 ∷ m) ++ codes "\"") ++ codes ",\"pairs\":" ++ (codes "[" ++ ps ++ codes "]") ++ codes "}")
part_put true m ps = part_pieces m ps
part_put false m ps = ap (λ l. 44 ∷ l) (part_pieces m ps)

-- and an entry of the loops
pub loop_put : (b : Bool) (m p q : List ℕ) → (((cond b (drop 1 (codes ",[\"m")) (codes ",[\"m") ++ m) ++ (codes "\"," ++ p)) ++ (codes "," ++ q)) ++ codes "]" ≡
    cond b [] (codes ",") ++ (codes "[" ++ (codes "\"" ++ (109 ∷ m) ++ codes "\"") ++ codes "," ++ p ++ codes "," ++ q ++ codes "]")
loop_put true m p q = loop_pieces m p q
loop_put false m p q = ap (λ l. 44 ∷ l) (loop_pieces m p q)

module _ {S : Type 0} {holds : S → List ℕ → Type 0} where
  -- one item more of a list is put
  pub one_put : {a b c : S} (text : ℕ → List ℕ) (k : ℕ) → Takes holds a b (join_by text (codes ",") (numbers_from 0 k)) → Takes holds b c (cond (k == 0) [] (codes ",") ++ text k) → Takes holds a c (join_by text (codes ",") (numbers_from 0 (k + 1)))
  one_put text k so_far taken = renamed (sym (join_by-more text (codes ",") k)) (behind so_far taken)

  -- all of them are
  pub all_put : {a b : S} {A : Type 0} (text : A → List ℕ) (xs : List A) (d : A) (k : ℕ) → k ≡ length xs → Takes holds a b (join_by (λ n. text (get_or xs n d)) (codes ",") (numbers_from 0 k)) → Takes holds a b (join_by text (codes ",") xs)
  all_put text xs d k all taken = renamed (ap (λ n. join_by (λ j. text (get_or xs j d)) (codes ",") (numbers_from 0 n)) all ∙ join_by-by_number text (codes ",") xs d) taken
