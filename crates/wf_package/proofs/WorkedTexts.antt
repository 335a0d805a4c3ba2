-- The worked texts.
use Rattle.std.proofs.Common.{◌≡◌, ℕ, List, [], ◌∷◌, ◌++◌, refl, sym, ap, ap₂, ◌∙◌, lit<, codes, append_assoc}
use Rattle.std.specs.Prelude.{decimal}
use Rattle.std.proofs.lemmas.Fmt.{decimal_digit}
use Rattle.wf_model.specs.Grammar.{Grammar}
use Rattle.wf_laws.specs.Examples.{port, edge}
use Rattle.wf_json.specs.Canonical.{text_in_quotes, list_of, pair_text, members_of}
use Rattle.package_model.specs.Packages.{package_of}
use Rattle.package_model.specs.Examples.{shut, whole, whole_package, cut}
use Rattle.package_model.proofs.WorkedPackages.{packages_are_worked}
use Rattle.wf_package.specs.PackageText.{given_text, text_with_loops, package_text}
use Rattle.wf_package.specs.Examples.{shut_package_text, cut_package_text, whole_package_end, TextsAreWorked}

shut_is : package_text shut ≡ shut_package_text
shut_is = ap₂ text_with_loops packages_are_worked.shut_is packages_are_worked.shut_loops ∙ refl

-- what is made of the digits 0 to 3
digits_are : (f : List ℕ → List ℕ → List ℕ → List ℕ → List ℕ) → f (decimal 0) (decimal 1) (decimal 2) (decimal 3) ≡ f (48 ∷ []) (49 ∷ []) (50 ∷ []) (51 ∷ [])
digits_are f =
    ap (λ z. f z (decimal 1) (decimal 2) (decimal 3)) (decimal_digit 0 (lit< tt)) ∙
    (ap (λ z. f (48 ∷ []) z (decimal 2) (decimal 3)) (decimal_digit 1 (lit< tt)) ∙
    (ap (λ z. f (48 ∷ []) (49 ∷ []) z (decimal 3)) (decimal_digit 2 (lit< tt)) ∙
    ap (λ z. f (48 ∷ []) (49 ∷ []) (50 ∷ []) z) (decimal_digit 3 (lit< tt))))

-- the package of the view that cuts a cycle, with these as its numbers in names
abbrev cut_by : List ℕ → List ℕ → List ℕ → Grammar
cut_by a b c = record {
  start = 0;
  modules =
      record { name = 109 ∷ a; inputs = (105 ∷ a) ∷ []; outputs = (111 ∷ a) ∷ [] } ∷
      record { name = 109 ∷ b; inputs = (105 ∷ a) ∷ []; outputs = (111 ∷ a) ∷ [] } ∷
      record { name = 109 ∷ c; inputs = (105 ∷ a) ∷ []; outputs = (111 ∷ a) ∷ [] } ∷ [];
  productions =
      record { head = 0; positions = record { name = 112 ∷ a; module_no = 2 } ∷ record { name = 112 ∷ b; module_no = 1 } ∷ []; edges = edge 0 0 1 0 ∷ []; entries = port 0 0 ∷ []; exits = port 1 0 ∷ [] } ∷
      record { head = 0; positions = record { name = 112 ∷ a; module_no = 2 } ∷ []; edges = []; entries = port 0 0 ∷ []; exits = port 0 0 ∷ [] } ∷ [];
  given = [];
}

-- its text, with these as its numbers
abbrev cut_text_by : List ℕ → List ℕ → List ℕ → List ℕ
cut_text_by a b c =
    codes "{\"package\":1," ++ members_of (cut_by a b c)
    ++ codes ",\"deps\":" ++ list_of given_text []
    ++ codes ",\"loops\":" ++ list_of (λ (t : List ℕ). t) ((codes "[" ++ text_in_quotes (109 ∷ 48 ∷ []) ++ codes "," ++ a ++ codes "," ++ b ++ codes "]") ∷ [])
    ++ codes "}\n"

cut_is : package_text cut ≡ cut_package_text
cut_is =
    ap (text_with_loops (package_of cut)) packages_are_worked.cut_loops
    ∙ digits_are (λ a b c d. cut_text_by a b c)

-- what is given to a module of the twisting grammar, with these as the numbers
abbrev part_by : List ℕ → List ℕ × List ℕ → List ℕ × List ℕ → List ℕ
part_by m p q =
    codes "{\"module\":" ++ text_in_quotes (109 ∷ m)
    ++ codes ",\"pairs\":" ++ list_of (λ (e : List ℕ × List ℕ). pair_text (text_in_quotes (105 ∷ e.0)) (text_in_quotes (111 ∷ e.1))) (p ∷ q ∷ [])
    ++ codes "}"

-- the end of its text
abbrev end_by : List ℕ → List ℕ → List ℕ → List ℕ → List ℕ
end_by a b c d =
    codes ",\"deps\":" ++ list_of (λ (t : List ℕ). t) (part_by c (a, b) (b, a) ∷ part_by d (a, a) (b, b) ∷ [])
    ++ codes ",\"loops\":" ++ list_of (λ (t : List ℕ). t) ((codes "[" ++ text_in_quotes (109 ∷ 49 ∷ []) ++ codes "," ++ b ++ codes "," ++ b ++ codes "]") ∷ [])
    ++ codes "}\n"

behind_it : (a b c d e f : List ℕ) → (a ++ b ++ c ++ d ++ e ++ f) ≡ a ++ (b ++ c ++ d ++ e ++ f)
behind_it a b c d e f =
    append_assoc (a ++ b ++ c ++ d) e f ∙ append_assoc (a ++ b ++ c) d (e ++ f) ∙ append_assoc (a ++ b) c (d ++ (e ++ f)) ∙ append_assoc a b (c ++ (d ++ (e ++ f)))
    ∙ ap (λ l. a ++ l) (sym (append_assoc (b ++ c ++ d) e f ∙ append_assoc (b ++ c) d (e ++ f) ∙ append_assoc b c (d ++ (e ++ f))))

whole_ends : (beginning : List ℕ) × (package_text whole ≡ beginning ++ whole_package_end)
whole_ends =
    let members = codes "{\"package\":1," ++ members_of whole_package in
    let given = list_of (λ (t : List ℕ). t) (part_by (decimal 2) (decimal 0, decimal 1) (decimal 1, decimal 0) ∷ part_by (decimal 3) (decimal 0, decimal 0) (decimal 1, decimal 1) ∷ []) in
    let loops = list_of (λ (t : List ℕ). t) ((codes "[" ++ text_in_quotes (109 ∷ 49 ∷ []) ++ codes "," ++ decimal 1 ++ codes "," ++ decimal 1 ++ codes "]") ∷ []) in (
      members ++ codes ",",
      ap₂ text_with_loops packages_are_worked.whole_is packages_are_worked.whole_loops
          ∙ behind_it members (codes ",\"deps\":") given (codes ",\"loops\":") loops (codes "}\n")
          ∙ ap (λ l. members ++ l) (digits_are end_by)
          ∙ sym (append_assoc members (codes ",") whole_package_end),
    )

pub texts_are_worked : TextsAreWorked
texts_are_worked = record {
  shut_is = shut_is;
  shut_view_has = (0 ∷ [], [], packages_are_worked.shut_seen, sym shut_is);
  fork_has = ap package_text packages_are_worked.fork_is ∙ shut_is;
  cut_is = cut_is;
  whole_ends = whole_ends;
}
