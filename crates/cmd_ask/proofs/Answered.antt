-- Answers to queries on a run under a view.
use Rattle.std.proofs.Common.{◌≡◌, ◌⊎◌, ℕ, true, false, cond, List, ◌++◌, length, Option, Some, None, codes, refl, sym, ap, ◌∙◌, subst, inl, inr, ⊎_elim}
use Rattle.std.specs.Prelude.{◌↔◌, IsTrue}
use Rattle.std.specs.Cmp.Derive.{one_truth}
use Rattle.wf_model.specs.Lists.{IsIn}
use Rattle.wf_model.specs.Grammar.{Grammar, Assignment}
use Rattle.wf_model.specs.WellFormed.{IsWellFormed}
use Rattle.wf_model.specs.View.{View}
use Rattle.wf_model.specs.declared.event.Event.{Event}
use Rattle.wf_model.specs.Safe.{IsInduced}
use Rattle.wf_model.specs.Run.{IsRun}
use Rattle.wf_model.specs.Links.{Link, links_with}
use Rattle.wf_model.specs.Items.{Item, items, IsMadeOpen, IsVisible}
use Rattle.wf_model.specs.Finishing.{IsFinishing}
use Rattle.wf_model.proofs.ItemNames.{item_of_name}
use Rattle.wf_flat.specs.declared.item.Item.{Item as ItemHeld}
use Rattle.wf_flat.specs.Table.{Table, events_of, names_in}
use Rattle.wf_flat.specs.Graph.{named_links}
use Rattle.wf_flat.specs.Item.{item_named, named_item, IsItemWithin}
use Rattle.wf_flat.specs.Flat.{FlatSeen, is_item_shown}
use Rattle.wf_flat.specs.Shown.{is_made_open, are_visible}
use Rattle.wf_flat.proofs.Shown.{shown_visible}
use Rattle.cmd_ask.specs.Answers.{IsVerdictOfRun, IsShown, IsAnswerFor, IsAnswerOfRun}
use Rattle.wf_query.specs.declared.answers.Answer.{Answer}
use Rattle.wf_query.specs.Answers.{answer_text}
use Rattle.cmd_ask.specs.Prepared.{IsPrepared, PathIn, TellsPath}
use Rattle.wf_flat.proofs.NamedItems.{named_found, named_none}
use Rattle.cmd_ask.proofs.PendingItems.{pending_depends}

-- what the test tells is made open
pub made_open : (g : Grammar) (u : View) (e : List Event) (o : Option (List ℕ)) → IsTrue (is_made_open g u e o) → IsMadeOpen g u g.start e o
made_open g u e None h = tt
made_open g u e (Some k) h = h

-- and the test tells it
open_made : (g : Grammar) (u : View) (e : List Event) (o : Option (List ℕ)) → IsMadeOpen g u g.start e o → IsTrue (is_made_open g u e o)
open_made g u e None h = refl
open_made g u e (Some k) h = h

-- a word says whether a path of links leads from where an item is consumed to where another is produced
abbrev SaysPath : List (Link (List ℕ)) → Item → Item → List ℕ → Type 0
SaysPath ls s t word = ((word ≡ codes "yes") × PathIn ls s.consumed t.produced) ⊎ ((word ≡ codes "no") × ¬ PathIn ls s.consumed t.produced)

module _ (g : Grammar) (u : View) (wf : IsWellFormed g) (e : List Event) (run : IsRun g g.start e) where
  found_named : (n : List ℕ) (t : Item) → IsIn t (items g g.start e) → t.name ≡ n → item_named (items g g.start e) n ≡ Some t
  found_named n t h q = named_found (items g g.start e) n t (λ s i w. item_of_name g g.start e wf run s t i h (w ∙ sym q)) h q

  -- no item has the first name
  pub first_unknown : (first second : List ℕ) → ((t : Item) → IsIn t (items g g.start e) → t.name ≡ first → ⊥) → IsAnswerOfRun g u e first second (codes "unknown")
  first_unknown first second lacks more f =
      subst (λ o. IsAnswerFor g u e (e ++ more) o (item_named (items g g.start e) second) (codes "unknown")) (sym (named_none (items g g.start e) first lacks)) refl

  -- no item has the second name
  pub second_unknown : (first second : List ℕ) (s : Item) → IsIn s (items g g.start e) → s.name ≡ first → ((t : Item) → IsIn t (items g g.start e) → t.name ≡ second → ⊥) → IsAnswerOfRun g u e first second (codes "unknown")
  second_unknown first second s h q lacks more f =
      subst (λ o. IsAnswerFor g u e (e ++ more) o (item_named (items g g.start e) second) (codes "unknown")) (sym (found_named first s h q))
      (subst (λ o. IsAnswerFor g u e (e ++ more) (Some s) o (codes "unknown")) (sym (named_none (items g g.start e) second lacks)) refl)

  module _ (first second : List ℕ) (s t : Item) (h : IsIn s (items g g.start e)) (q : s.name ≡ first) (i : IsIn t (items g g.start e)) (w : t.name ≡ second) where
    -- both names are those of items
    both_known : (line : List ℕ) → ((more : List Event) → IsFinishing g u g.start e more → IsShown (are_visible g u e s t) g u (e ++ more) s t line) → IsAnswerOfRun g u e first second line
    both_known line v more f =
        subst (λ o. IsAnswerFor g u e (e ++ more) o (item_named (items g g.start e) second) line) (sym (found_named first s h q))
        (subst (λ o. IsAnswerFor g u e (e ++ more) (Some s) o line) (sym (found_named second t i w)) (v more f))

    -- one of the two items is not visible
    both_hidden : are_visible g u e s t ≡ false → IsAnswerOfRun g u e first second (codes "hidden")
    both_hidden shut = both_known (codes "hidden") (λ more f. subst (λ b. IsShown b g u (e ++ more) s t (codes "hidden")) (sym shut) refl)

    -- both are visible, and whether the second depends on the first in each finishing is told by the links
    both_visible : (full : Assignment) → IsInduced g u full → is_made_open g u e s.maker ≡ true → is_made_open g u e t.maker ≡ true → (word : List ℕ) → SaysPath (links_with g u full g.start e) s t word → IsAnswerOfRun g u e first second word
    both_visible full induced seen seen_too word v =
        both_known word (λ more f. subst (λ b. IsShown b g u (e ++ more) s t word) (sym (ap (λ z. cond z (is_made_open g u e t.maker) false) seen ∙ seen_too)) (stands more f v))
      where
        stands : (more : List Event) → IsFinishing g u g.start e more → SaysPath (links_with g u full g.start e) s t word → IsVerdictOfRun g u (e ++ more) s t word
        stands more f =
            let same = pending_depends g u wf full induced e run s t h (made_open g u e s.maker seen) i (made_open g u e t.maker seen_too) more f in
            ⊎_elim (λ a. inl (a.0, same.0 a.1)) (λ a. inr (a.0, λ d. a.1 (same.1 d)))

-- whether an item is visible, by the flags
flag_tells : (g : Grammar) (u : View) (t : Table) (flat : FlatSeen) → IsPrepared g u t flat → (name : List ℕ) (i : ItemHeld) → IsItemWithin (length t.instances) i → is_made_open g u (events_of t) (named_item (names_in t.instances) name i).maker ≡ is_item_shown flat.opens i.maker
flag_tells g u t flat p name i w =
    let seen = shown_visible g t u flat.opens p.opens name i w in
    one_truth _ _ (λ h. seen.1 (test.0 h)) (λ h. test.1 (seen.0 h))
  where
    test : IsTrue (is_made_open g u (events_of t) (named_item (names_in t.instances) name i).maker) ↔ IsVisible g u g.start (events_of t) (named_item (names_in t.instances) name i)
    test = (made_open g u (events_of t) (named_item (names_in t.instances) name i).maker, open_made g u (events_of t) (named_item (names_in t.instances) name i).maker)

-- two items that were found
module _ (g : Grammar) (u : View) (t : Table) (flat : FlatSeen) (p : IsPrepared g u t flat) (first second : List ℕ) (a b : ItemHeld)
    (a_in : IsIn (named_item (names_in t.instances) first a) (items g g.start (events_of t))) (b_in : IsIn (named_item (names_in t.instances) second b) (items g g.start (events_of t)))
    (a_within : IsItemWithin (length t.instances) a) (b_within : IsItemWithin (length t.instances) b) where
  abbrev one : Item
  one = named_item (names_in t.instances) first a

  abbrev other : Item
  other = named_item (names_in t.instances) second b

  by_flags : are_visible g u (events_of t) one other ≡ cond (is_item_shown flat.opens a.maker) (is_item_shown flat.opens b.maker) false
  by_flags =
      ap (λ z. cond z (is_made_open g u (events_of t) other.maker) false) (flag_tells g u t flat p first a a_within)
      ∙ ap (λ z. cond (is_item_shown flat.opens a.maker) z false) (flag_tells g u t flat p second b b_within)

  hidden_answer : are_visible g u (events_of t) one other ≡ false → IsAnswerOfRun g u (events_of t) first second (codes "hidden")
  hidden_answer = both_hidden g u p.formed (events_of t) p.run.accepted.0 first second one other a_in refl b_in refl

  -- the first is not visible
  pub first_hidden : is_item_shown flat.opens a.maker ≡ false → IsAnswerOfRun g u (events_of t) first second (codes "hidden")
  first_hidden shut = hidden_answer (by_flags ∙ ap (λ z. cond z (is_item_shown flat.opens b.maker) false) shut)

  module _ (shown : is_item_shown flat.opens a.maker ≡ true) where
    both_flags : are_visible g u (events_of t) one other ≡ is_item_shown flat.opens b.maker
    both_flags = by_flags ∙ ap (λ z. cond z (is_item_shown flat.opens b.maker) false) shown

    -- the second is not visible
    pub second_hidden : is_item_shown flat.opens b.maker ≡ false → IsAnswerOfRun g u (events_of t) first second (codes "hidden")
    second_hidden shut = hidden_answer (both_flags ∙ shut)

    -- both are visible
    pub path_answers : is_item_shown flat.opens b.maker ≡ true → (x : Answer) → TellsPath (named_links (names_in t.instances) p.held) one.consumed other.produced x → IsAnswerOfRun g u (events_of t) first second (answer_text x)
    path_answers open_too x = ⊎_elim
        (λ v. answered (answer_text x) (inl (ap answer_text v.0, moved v.1)))
        (λ v. answered (answer_text x) (inr (ap answer_text v.0, λ h. v.1 (back h))))
      where
        moved : PathIn (named_links (names_in t.instances) p.held) one.consumed other.produced → PathIn (links_with g u p.full g.start (events_of t)) one.consumed other.produced
        moved = subst (λ ls. PathIn ls one.consumed other.produced) p.links

        back : PathIn (links_with g u p.full g.start (events_of t)) one.consumed other.produced → PathIn (named_links (names_in t.instances) p.held) one.consumed other.produced
        back = subst (λ ls. PathIn ls one.consumed other.produced) (sym p.links)

        answered : (word : List ℕ) → SaysPath (links_with g u p.full g.start (events_of t)) one other word → IsAnswerOfRun g u (events_of t) first second word
        answered word v =
            both_visible g u p.formed (events_of t) p.run.accepted.0 first second one other a_in refl b_in refl p.full p.induced
            (flag_tells g u t flat p first a a_within ∙ shown) (flag_tells g u t flat p second b b_within ∙ open_too) word v
