-- What holds of a run under a safe view, by what is held of it.
use Rattle.std.proofs.Common.{◌≡◌, ℕ, ◌<◌, Bool, true, [], get_or, Option, Some, None, refl, sym, subst}
use Rattle.std.specs.Prelude.{◌↔◌, option_map, IsTrue, IfSome}
use Rattle.wf_model.specs.Grammar.{Grammar}
use Rattle.wf_model.specs.View.{View}
use Rattle.wf_model.specs.Run.{opens, seen_in}
use Rattle.wf_model.specs.Items.{IsMadeOpen}
use Rattle.wf_flat.specs.Table.{Table, names_in, events_of}

-- whether an item is visible that an instance made, or none
module _ (g : Grammar) (u : View) (t : Table) where
  abbrev IsMadeVisible : Option ℕ → Type 0
  IsMadeVisible m = IsMadeOpen g u g.start (events_of t) (option_map (λ k. get_or (names_in t.instances) k []) m)

  pub none_made : (m : Option ℕ) → m ≡ None → IsTrue true ↔ IsMadeVisible m
  none_made m e = ((λ _. subst IsMadeVisible (sym e) tt), (λ _. refl))

  pub some_made : (m : Option ℕ) (k : ℕ) → m ≡ Some k → (b : Bool) → b ≡ opens u (seen_in g u g.start (events_of t)) (get_or (names_in t.instances) k []) → IsTrue b ↔ IsMadeVisible m
  some_made m k e b h = ((λ s. subst IsMadeVisible (sym e) (subst IsTrue h s)), (λ s. subst IsTrue (sym h) (subst IsMadeVisible e s)))

-- the number of an instance that made an item
pub maker_there : (n : ℕ) (m : Option ℕ) (k : ℕ) → m ≡ Some k → IfSome m (λ j. j < n) → k < n
maker_there n m k e h = subst (λ z. IfSome z (λ j. j < n)) e h
