-- Productions whose modules are among given names, as tests.
use Rattle.std.proofs.Common.{◌≡◌, ℕ, Bool, true, ◌&&◌, List, ap, ◌∙◌}
use Rattle.std.specs.List.{list_all}
use Rattle.wf_model.specs.declared.parts.PosPart.{PosPart}
use Rattle.wf_model.specs.declared.parts.ProdPart.{ProdPart}
use Rattle.wf_model.specs.Faults.{is_one_of}
use Rattle.wf_model.proofs.Lists.{among_gives, among_from}
use Rattle.wf_form.specs.Rules.{HasKnownModules}
use Rattle.wf_spec.proofs.Tests.{all_gives, all_from}
use Rattle.std.proofs.lemmas.Bool.{and_from}
use Rattle.wf_model.proofs.Tests.{and_left, and_right}

-- the head and the module at each position are among these names
abbrev pub names_known : List (List ℕ) → ProdPart → Bool
names_known names p = is_one_of names p.head && list_all (λ (q : PosPart). is_one_of names q.module) p.body

-- the test of the body alone, where the head passes
pub known_tested : (names : List (List ℕ)) (p : ProdPart) (head : List ℕ) (body : List PosPart) → head ≡ p.head → body ≡ p.body → true ≡ is_one_of names head → list_all (λ (q : PosPart). is_one_of names q.module) body ≡ names_known names p
known_tested names p head body is are known =
    ap (list_all (λ (q : PosPart). is_one_of names q.module)) are ∙ ap (λ b. b && list_all (λ (q : PosPart). is_one_of names q.module) p.body) (known ∙ ap (is_one_of names) is)

pub known_part : (names : List (List ℕ)) (p : ProdPart) → names_known names p ≡ true → HasKnownModules names p
known_part names p e = record {
  head = among_gives p.head names (and_left (is_one_of names p.head) (list_all (λ (q : PosPart). is_one_of names q.module) p.body) e);
  positions = λ q i. among_gives q.module names (all_gives (λ (r : PosPart). is_one_of names r.module) p.body (and_right (is_one_of names p.head) (list_all (λ (r : PosPart). is_one_of names r.module) p.body) e) q i);
}

pub part_known : (names : List (List ℕ)) (p : ProdPart) → HasKnownModules names p → names_known names p ≡ true
part_known names p h =
    and_from (is_one_of names p.head) (list_all (λ (q : PosPart). is_one_of names q.module) p.body) (among_from p.head names h.head)
    (all_from (λ (q : PosPart). is_one_of names q.module) p.body (λ q i. among_from q.module names (h.positions q i)))
