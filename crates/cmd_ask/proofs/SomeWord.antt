-- A query on a run is answered by some word under a safe view.
use Rattle.std.proofs.Common.{◌≡◌, ◌↔◌, ℕ, Bool, true, false, cond, List, ◌++◌, Option, Some, None, codes, refl, inl, inr, ⊎_elim}
use Rattle.wf_model.specs.Lists.{IsIn}
use Rattle.wf_model.specs.Grammar.{Grammar, Assignment}
use Rattle.wf_model.specs.WellFormed.{IsWellFormed}
use Rattle.wf_model.specs.Proper.{IsProper}
use Rattle.wf_model.specs.View.{View}
use Rattle.wf_model.specs.Safe.{IsSafe, IsInduced, IsFull}
use Rattle.wf_model.specs.declared.event.Event.{Event}
use Rattle.wf_model.specs.Run.{IsRun}
use Rattle.wf_model.specs.Finishing.{ExpandsComposites, IsFinishing}
use Rattle.wf_model.specs.Links.{Port, Link, links_with}
use Rattle.wf_model.specs.Items.{Item, items, Depends}
use Rattle.wf_model.proofs.Deciding.{Either, bytes_either}
use Rattle.wf_laws.proofs.Full.{full_law, safe_full_law}
use Rattle.wf_laws.proofs.PathTests.{path_either}
use Rattle.wf_flat.specs.Shown.{is_made_open}
use Rattle.wf_flat.specs.Item.{item_named}
use Rattle.cmd_ask.specs.Answers.{IsShown, IsAnswerFor, IsAnswerOfRun}
use Rattle.cmd_ask.specs.Prepared.{PathIn}
use Rattle.cmd_ask.proofs.Answered.{made_open}
use Rattle.wf_flat.proofs.NamedItems.{IsFoundBy, found_by}
use Rattle.cmd_ask.proofs.PendingItems.{pending_depends}

-- a path of links leads from a port to a port, either of which may not be there; or none does
path_in_either : (ls : List (Link (List ℕ))) (x y : Option (Port (List ℕ))) → Either (PathIn ls x y)
path_in_either ls None y = inr (λ h. h)
path_in_either ls (Some x) None = inr (λ h. h)
path_in_either ls (Some x) (Some y) = path_either bytes_either ls x y

module _ (g : Grammar) (u : View) (formed : IsWellFormed g) (proper : IsProper g) (composites : ExpandsComposites g u) (safe : IsSafe g u) (e : List Event) (run : IsRun g g.start e) where
  -- the pairs that every production induces
  full : (d : Assignment) × IsFull g u d
  full = safe_full_law g u formed proper composites safe

  induced : IsInduced g u full.0
  induced = (full_law g u full.0 formed proper composites).0 full.1

  -- a word answers in each finishing, for two items of which it is known whether each is visible
  abbrev AnswersShown : Bool → Item → Item → Type 0
  AnswersShown shown s t = (word : List ℕ) × ((more : List Event) → IsFinishing g u g.start e more → IsShown shown g u (e ++ more) s t word)

  module _ (s t : Item) (s_in : IsIn s (items g g.start e)) (t_in : IsIn t (items g g.start e)) where
    -- both are visible: the links tell it
    both_visible : is_made_open g u e s.maker ≡ true → is_made_open g u e t.maker ≡ true → AnswersShown true s t
    both_visible seen seen_too = ⊎_elim
        (λ path. (codes "yes", λ more f. inl (refl, (same more f).0 path)))
        (λ none. (codes "no", λ more f. inr (refl, λ depends. none ((same more f).1 depends))))
        (path_in_either (links_with g u full.0 g.start e) s.consumed t.produced)
      where
        same : (more : List Event) → IsFinishing g u g.start e more → PathIn (links_with g u full.0 g.start e) s.consumed t.produced ↔ Depends g u (e ++ more) s t
        same = pending_depends g u formed full.0 induced e run s t s_in (made_open g u e s.maker seen) t_in (made_open g u e t.maker seen_too)

    by_sight : (a b : Bool) → is_made_open g u e s.maker ≡ a → is_made_open g u e t.maker ≡ b → AnswersShown (cond a b false) s t
    by_sight false b p q = (codes "hidden", λ more f. refl)
    by_sight true false p q = (codes "hidden", λ more f. refl)
    by_sight true true p q = both_visible p q

  -- so it does for two items that may not be there
  answers_for : (first second : List ℕ) (a b : Option Item) → IsFoundBy (items g g.start e) first a → IsFoundBy (items g g.start e) second b →
      (word : List ℕ) × ((more : List Event) → IsFinishing g u g.start e more → IsAnswerFor g u e (e ++ more) a b word)
  answers_for first second None b p q = (codes "unknown", λ more f. refl)
  answers_for first second (Some s) None p q = (codes "unknown", λ more f. refl)
  answers_for first second (Some s) (Some t) p q = by_sight s t p.0 q.0 (is_made_open g u e s.maker) (is_made_open g u e t.maker) refl refl

  pub some_run_word : (first second : List ℕ) → (word : List ℕ) × IsAnswerOfRun g u e first second word
  some_run_word first second =
      let all = items g g.start e in
      answers_for first second (item_named all first) (item_named all second) (found_by all first) (found_by all second)
