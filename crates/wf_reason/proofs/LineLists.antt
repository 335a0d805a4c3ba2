-- How the lines of an item and of steps from it on are put together and taken apart.
use Rattle.std.proofs.Common.{◌≡◌, ℕ, suc, List, [], ◌∷◌, ◌++◌, length, drop, flat_map, get_or, refl, sym, ap, ◌∙◌, subst, arith, length-append, append_assoc}
use Rattle.std.proofs.lemmas.Grind.{flat_map-append}
use Rattle.wf_model.specs.Grammar.{Grammar, Assignment}
use Rattle.wf_model.specs.View.{View}
use Rattle.wf_model.specs.declared.event.Event.{Event}
use Rattle.wf_model.specs.Items.{Item}
use Rattle.chain_model.specs.Chains.{ChainStep, IsStepFrom, StepsLead}
use Rattle.wf_reason.specs.declared.turn.Turn.{Turn}
use Rattle.wf_reason.specs.declared.turn.Turn.TheVariants.{Item as ItemTurn, Instance as ViaTurn}
use Rattle.wf_reason.specs.ChainLines.{ChainLine, ItemLine, ViaLine, next_turn, turn_behind, lines_of_step, lines_of}

-- a list is empty, or has a last element
pub data HasLast {A : Type 0} (xs : List A) : Type 0 where
  empty : xs ≡ [] → HasLast xs
  last : (before : List A) (x : A) → xs ≡ before ++ x ∷ [] → HasLast xs

pub has_last : {A : Type 0} (xs : List A) → HasLast xs
has_last [] = empty refl
has_last {A} (x ∷ xs) = go (has_last xs)
  where
    go : HasLast xs → HasLast (x ∷ xs)
    go (empty e) = last [] x (ap (λ (l : List A). x ∷ l) e)
    go (last before y e) = last (x ∷ before) y (ap (λ (l : List A). x ∷ l) e)

-- a list with a last element has one such element, and one list before it
pub last_same : {A : Type 0} (xs ys : List A) (a b : A) → xs ++ a ∷ [] ≡ ys ++ b ∷ [] → (xs ≡ ys) × (a ≡ b)
last_same {A} [] [] a b e = (refl, ap (λ (l : List A). get_or l 0 a) e)
last_same {A} [] (y ∷ ys) a b e = let n : 1 ≡ suc (length (ys ++ b ∷ [])) = ap (λ (l : List A). length l) e in let m = length-append ys (b ∷ []) in absurd (omega (arith, n, m))
last_same {A} (x ∷ xs) [] a b e = let n : suc (length (xs ++ a ∷ [])) ≡ 1 = ap (λ (l : List A). length l) e in let m = length-append xs (a ∷ []) in absurd (omega (arith, n, m))
last_same {A} (x ∷ xs) (y ∷ ys) a b e =
    let h : x ≡ y = ap (λ (l : List A). get_or l 0 x) e in
    let r = last_same xs ys a b (ap (drop 1) e) in
    ((λ t. h t ∷ r.0 t), r.1)

pub not_empty : {A : Type 0} (xs : List A) (a : A) → xs ++ a ∷ [] ≡ [] → ⊥
not_empty {A} xs a e = let n : length (xs ++ a ∷ []) ≡ 0 = ap (λ (l : List A). length l) e in let m = length-append xs (a ∷ []) in absurd (omega (arith, n, m))

-- the turn behind one line more
pub turn_further : {A : Type 0} (t : Turn) (xs : List A) (x : A) → turn_behind t (xs ++ x ∷ []) ≡ next_turn (turn_behind t xs)
turn_further t [] x = refl
turn_further t (y ∷ xs) x = turn_further (next_turn t) xs x

-- behind an item and steps it is the turn of an instance
turn_of_steps : (steps : List ChainStep) → turn_behind ViaTurn (flat_map lines_of_step steps) ≡ ViaTurn
turn_of_steps [] = refl
turn_of_steps (s ∷ steps) = turn_of_steps steps

pub turn_of_lines : (x : Item) (steps : List ChainStep) → turn_behind ItemTurn (lines_of x steps) ≡ ViaTurn
turn_of_lines x steps = turn_of_steps steps

pub via_not_item : ViaTurn ≡ ItemTurn → ⊥
via_not_item e = cc

-- the lines of one step more
pub lines_further : (x : Item) (steps : List ChainStep) (s : ChainStep) → lines_of x (steps ++ s ∷ []) ≡ (lines_of x steps ++ ViaLine s.via.name ∷ []) ++ ItemLine s.item.name ∷ []
lines_further x steps s =
    ap (λ (l : List ChainLine). ItemLine x.name ∷ l) (flat_map-append lines_of_step steps (s ∷ []) ∙ sym (append_assoc (flat_map lines_of_step steps) (ViaLine s.via.name ∷ []) (ItemLine s.item.name ∷ [])))

module _ (g : Grammar) (u : View) (d : Assignment) (m : ℕ) (events : List Event) where
  -- steps lead on by one step more
  pub steps_further : (x y : Item) (steps : List ChainStep) (s : ChainStep) → StepsLead g u d m events x steps y → IsStepFrom g u d m events y s → StepsLead g u d m events x (steps ++ s ∷ []) s.item
  steps_further x y [] s h q = (subst (λ z. IsStepFrom g u d m events z s) (sym h) q, refl)
  steps_further x y (t ∷ steps) s h q = (h.0, steps_further t.item y steps s h.1 q)

  -- the last of steps goes on from an item to which those before it lead
  pub steps_before : (x z : Item) (steps : List ChainStep) (s : ChainStep) → StepsLead g u d m events x (steps ++ s ∷ []) z →
      (y : Item) × StepsLead g u d m events x steps y × IsStepFrom g u d m events y s × (s.item ≡ z)
  steps_before x z [] s h = (x, refl, h.0, h.1)
  steps_before x z (t ∷ steps) s h = let r = steps_before t.item z steps s h.1 in (r.0, (h.0, r.1), r.2, r.3)
