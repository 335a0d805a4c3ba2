-- The names of the entries that are listed, part by part.
use Rattle.std.proofs.Common.{◌≡◌, ◌⊎◌, ℕ, List, [], ◌∷◌, ◌++◌, refl, sym, ap, ◌∙◌, subst, inl, inr}
use Rattle.wf_model.specs.Lists.{IsIn}
use Rattle.label_model.specs.Files.{Entry}
use Rattle.wf_lineage.specs.Listed.{AreListed}

module _ (Listed : Entry → Type 0) where
  -- the names of all entries are those of the first ones, and then those of the others
  pub listed_behind : (xs ys : List Entry) (first all : List (List ℕ)) → AreListed Listed xs first → AreListed Listed (xs ++ ys) all → (rest : List (List ℕ)) × AreListed Listed ys rest × (all ≡ first ++ rest)
  listed_behind [] ys first all p q = (all, q, ap (λ z. z ++ all) (sym p))
  listed_behind (x ∷ xs) ys first all (inl p) (inl q) =
      let r = listed_behind xs ys p.1.0 q.1.0 p.1.1 q.1.1 in
      (r.0, r.1, q.1.2 ∙ (ap (λ z. x.name ∷ z) r.2 ∙ ap (λ z. z ++ r.0) (sym p.1.2)))
  listed_behind (x ∷ xs) ys first all (inl p) (inr q) = absurd (q.0 p.0)
  listed_behind (x ∷ xs) ys first all (inr p) (inl q) = absurd (p.0 q.0)
  listed_behind (x ∷ xs) ys first all (inr p) (inr q) = listed_behind xs ys first all p.1 q.1

  -- entries have one list of names
  pub listed_once : (xs : List Entry) (a b : List (List ℕ)) → AreListed Listed xs a → AreListed Listed xs b → a ≡ b
  listed_once [] a b p q = p ∙ sym q
  listed_once (x ∷ xs) a b (inl p) (inl q) = p.1.2 ∙ (ap (λ z. x.name ∷ z) (listed_once xs p.1.0 q.1.0 p.1.1 q.1.1) ∙ sym q.1.2)
  listed_once (x ∷ xs) a b (inl p) (inr q) = absurd (q.0 p.0)
  listed_once (x ∷ xs) a b (inr p) (inl q) = absurd (p.0 q.0)
  listed_once (x ∷ xs) a b (inr p) (inr q) = listed_once xs a b p.1 q.1

  -- the names of some entries and of those behind them
  pub listed_both : (xs ys : List Entry) (a b : List (List ℕ)) → AreListed Listed xs a → AreListed Listed ys b → AreListed Listed (xs ++ ys) (a ++ b)
  listed_both [] ys a b p q = subst (λ z. AreListed Listed ys (z ++ b)) (sym p) q
  listed_both (x ∷ xs) ys a b (inl p) q = inl (p.0, (p.1.0 ++ b, listed_both xs ys p.1.0 b p.1.1 q, ap (λ z. z ++ b) p.1.2))
  listed_both (x ∷ xs) ys a b (inr p) q = inr (p.0, listed_both xs ys a b p.1 q)

  -- an entry that is listed has its name among them
  pub listed_in : (xs : List Entry) (names : List (List ℕ)) → AreListed Listed xs names → (e : Entry) → IsIn e xs → Listed e → IsIn e.name names
  listed_in [] names p e i h = absurd i
  listed_in (x ∷ xs) names (inl p) e (inl is) h = subst (λ z. IsIn e.name z) (sym p.1.2) (inl (ap (λ (z : Entry). z.name) is))
  listed_in (x ∷ xs) names (inl p) e (inr i) h = subst (λ z. IsIn e.name z) (sym p.1.2) (inr (listed_in xs p.1.0 p.1.1 e i h))
  listed_in (x ∷ xs) names (inr p) e (inl is) h = absurd (p.0 (subst Listed is h))
  listed_in (x ∷ xs) names (inr p) e (inr i) h = listed_in xs names p.1 e i h

  -- a name among them is that of an entry that is listed
  pub in_listed : (xs : List Entry) (names : List (List ℕ)) → AreListed Listed xs names → (name : List ℕ) → IsIn name names → (e : Entry) × IsIn e xs × Listed e × (e.name ≡ name)
  in_listed [] names p name i = absurd (subst (λ z. IsIn name z) p i)
  in_listed (x ∷ xs) names (inl p) name i = go (λ j. in_listed xs p.1.0 p.1.1 name j) (subst (λ z. IsIn name z) p.1.2 i)
    where
      go : (IsIn name p.1.0 → (e : Entry) × IsIn e xs × Listed e × (e.name ≡ name)) → IsIn name (x.name ∷ p.1.0) → (e : Entry) × IsIn e (x ∷ xs) × Listed e × (e.name ≡ name)
      go later (inl is) = (x, inl refl, p.0, sym is)
      go later (inr j) = let r = later j in (r.0, inr r.1, r.2, r.3)
  in_listed (x ∷ xs) names (inr p) name i = let r = in_listed xs names p.1 name i in (r.0, inr r.1, r.2, r.3)

  -- where it is told of each entry whether it is listed, they have names
  pub some_listed : (xs : List Entry) → ((e : Entry) → IsIn e xs → Listed e ⊎ (Listed e → ⊥)) → (names : List (List ℕ)) × AreListed Listed xs names
  some_listed [] each = ([], refl)
  some_listed (x ∷ xs) each = go (each x (inl refl)) (some_listed xs (λ e i. each e (inr i)))
    where
      go : Listed x ⊎ (Listed x → ⊥) → (names : List (List ℕ)) × AreListed Listed xs names → (names : List (List ℕ)) × AreListed Listed (x ∷ xs) names
      go (inl h) r = (x.name ∷ r.0, inl (h, (r.0, r.1, refl)))
      go (inr n) r = (r.0, inr (n, r.1))
