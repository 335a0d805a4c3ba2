-- A view of a well-formed grammar has a package, and no more than one.
use Rattle.std.proofs.Common.{◌≡◌, ◌+◌, ◌<◌, IsTrue, ℕ, Bool, List, length, refl, arith}
use Rattle.std.specs.List.{filter}
use Rattle.wf_model.specs.Lists.{IsIn, numbers_from}
use Rattle.wf_model.specs.Grammar.{Grammar, head_of}
use Rattle.wf_model.specs.WellFormed.{IsWellFormed}
use Rattle.wf_model.specs.View.{View, expands, IsSeenModule}
use Rattle.wf_model.proofs.Deciding.{Either, is_so, so_gives, so_from, either_both, test_either}
use Rattle.wf_model.proofs.Lists.{in_filter, in_filter_from}
use Rattle.wf_model.proofs.Level.{in_numbers, numbers_in}
use Rattle.wf_model.proofs.Rising.{numbers_rise}
use Rattle.wf_laws.proofs.SeenOrNot.{seen_either}
use Rattle.wf_safe.proofs.SeenBelow.{seen_below}
use Rattle.package_model.specs.Shown.{AreSeen, shown_of}
use Rattle.wf_package.specs.PackageText.{package_text, IsPackageText}
use Rattle.wf_package.proofs.SameText.{same_text_law}

pub one_text : (g : Grammar) (u : View) (x y : List ℕ) → IsPackageText g u x → IsPackageText g u y → x ≡ y
one_text g u x y p q = same_text_law g g u u p.0 p.1 p.0 p.1 p.2 p.2 refl x y p q

module _ (P : ℕ → Type 0) (either : (k : ℕ) → Either (P k)) (n : ℕ) where
  abbrev test : ℕ → Bool
  test k = is_so (either k)

  -- the numbers below n that have a property, in order
  abbrev those : List ℕ
  those = filter test (numbers_from 0 n)

  those_have : (k : ℕ) → IsIn k those → (k < n) × P k
  those_have k i =
      let f = in_filter_from test k (numbers_from 0 n) i in
      let l : k < 0 + n = in_numbers k 0 n f.0 in
      (omega arith, so_gives (either k) f.1)

  have_those : (k : ℕ) → k < n → P k → IsIn k those
  have_those k l p = in_filter test k (numbers_from 0 n) (numbers_in k 0 n (omega arith) (omega arith)) (so_from (either k) p)

module _ (g : Grammar) (u : View) (formed : IsWellFormed g) where
  -- the view expands the head of a production, which is seen
  abbrev IsOpened : ℕ → Type 0
  IsOpened p = IsSeenModule g u (head_of g p) × IsTrue (expands u (head_of g p))

  opened_either : (p : ℕ) → Either (IsOpened p)
  opened_either p = either_both (seen_either g u (head_of g p)) (test_either (expands u (head_of g p)))

  abbrev modules : List ℕ
  modules = those (IsSeenModule g u) (seen_either g u) (length g.modules)

  abbrev productions : List ℕ
  productions = those IsOpened opened_either (length g.productions)

  seen : AreSeen g u modules productions
  seen = record {
    modules_in_order = numbers_rise (test (IsSeenModule g u) (seen_either g u) (length g.modules)) 0 (length g.modules);
    modules = λ m. (
      (λ i. (those_have (IsSeenModule g u) (seen_either g u) (length g.modules) m i).1),
      (λ s. have_those (IsSeenModule g u) (seen_either g u) (length g.modules) m (seen_below g u m formed s) s),
    );
    productions_in_order = numbers_rise (test IsOpened opened_either (length g.productions)) 0 (length g.productions);
    productions = λ p. (
      (λ i. let h = those_have IsOpened opened_either (length g.productions) p i in (h.0, h.1.0, h.1.1)),
      (λ o. have_those IsOpened opened_either (length g.productions) p o.0 (o.1, o.2)),
    );
  }

  pub some_text : (text : List ℕ) × IsPackageText g u text
  some_text = (package_text (shown_of g u modules productions), (modules, productions, seen, refl))
