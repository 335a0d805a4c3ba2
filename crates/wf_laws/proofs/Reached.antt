-- The ports that can be reached from a port, by computation: for worked examples.
use Rattle.std.proofs.Common.{◌≡◌, ℕ, zero, suc, Bool, true, false, cond, not, ◌&&◌, ◌||◌, ◌==◌, List, [], ◌∷◌, refl, sym, ◌∙◌, subst, inl, inr, ⊎_elim, arith, true≢false}
use Rattle.std.proofs.lemmas.Bool.{and_parts}
use Rattle.std.proofs.lemmas.Bool.Decides.{nat_tests}
use Rattle.wf_model.specs.Lists.{IsIn, some, here, onward}
use Rattle.wf_model.specs.declared.numbers.Side.{Side}
use Rattle.wf_model.specs.declared.numbers.Side.TheVariants.{Input, Output}
use Rattle.wf_model.specs.Links.{Port, Link, Path}
use Rattle.wf_model.proofs.Lists.{some_gives}
use Rattle.wf_model.proofs.Walks.{walk-append, walk_one}

abbrev same_side : Side → Side → Bool
same_side Input Input = true
same_side Input Output = false
same_side Output Input = false
same_side Output Output = true

side_same : (a b : Side) → same_side a b ≡ true → a ≡ b
side_same Input Input e = refl
side_same Input Output e = absurd (true≢false (sym e))
side_same Output Input e = absurd (true≢false (sym e))
side_same Output Output e = refl

module _ {A : Type 0} (same : A → A → Bool) (sound : (a b : A) → same a b ≡ true → a ≡ b) where
  abbrev same_port : Port A → Port A → Bool
  same_port x y = same x.owner y.owner && (same_side x.side y.side && (x.number == y.number))

  port_same : (x y : Port A) → same_port x y ≡ true → x ≡ y
  port_same x y e =
      let a = and_parts (same x.owner y.owner) (same_side x.side y.side && (x.number == y.number)) e in
      let b = and_parts (same_side x.side y.side) (x.number == y.number) a.1 in
      let o = sound x.owner y.owner a.0 in
      let s = side_same x.side y.side b.0 in
      let n : x.number ≡ y.number = let t : (x.number == y.number) ≡ true = b.1 in grind (arith, nat_tests) in
      λ i. record { owner = o i; side = s i; number = n i }

  abbrev has : List (Port A) → Port A → Bool
  has s x = some (same_port x) s

  -- with the ports to which a link leads from one of them, link by link
  abbrev next : List (Link A) → List (Port A) → List (Port A)
  next [] s = s
  next (l ∷ ls) s = next ls (cond (has s l.from && not (has s l.to)) (l.to ∷ s) s)

  abbrev pub reached : ℕ → List (Link A) → List (Port A) → List (Port A)
  reached zero ls s = s
  reached (suc n) ls s = reached n ls (next ls s)

  -- no link leads out of these ports
  abbrev closed : List (Port A) → List (Link A) → Bool
  closed s [] = true
  closed s (l ∷ ls) = (not (has s l.from) || has s l.to) && closed s ls

  module _ (all : List (Link A)) (x : Port A) where
    abbrev AllFrom : List (Port A) → Type 0
    AllFrom s = (y : Port A) → IsIn y s → Path all x y

    has_in : (s : List (Port A)) (y : Port A) → has s y ≡ true → IsIn y s
    has_in s y e = let r = some_gives (same_port y) s e in subst (λ z. IsIn z s) (sym (port_same y r.0 r.2)) r.1

    next_from : (ls : List (Link A)) (s : List (Port A)) → ((l : Link A) → IsIn l ls → IsIn l all) → AllFrom s → AllFrom (next ls s)
    next_from [] s sub h = h
    next_from (l ∷ ls) s sub h = next_from ls _ (λ k i. sub k (inr i)) (go (has s l.from) refl (not (has s l.to)))
      where
        go : (b : Bool) → has s l.from ≡ b → (c : Bool) → AllFrom (cond (b && c) (l.to ∷ s) s)
        go false e c = h
        go true e false = h
        go true e true = λ y i. ⊎_elim (λ q. subst (Path all x) (sym q) (walk-append (h l.from (has_in s l.from e)) (walk_one (sub l (inl refl))))) (λ j. h y j) i

    reached_from : (n : ℕ) (s : List (Port A)) → AllFrom s → AllFrom (reached n all s)
    reached_from zero s h = h
    reached_from (suc n) s h = reached_from n (next all s) (next_from all s (λ l i. i) h)

    -- a path leads to each port that is reached
    pub found : (n : ℕ) (y : Port A) → has (reached n all (x ∷ [])) y ≡ true → Path all x y
    found n y e = reached_from n (x ∷ []) (λ z i. ⊎_elim (λ q. subst (Path all x) (sym q) here) (λ j. absurd j) i) y (has_in (reached n all (x ∷ [])) y e)

  closed_at : (s : List (Port A)) (ls : List (Link A)) (l : Link A) → closed s ls ≡ true → IsIn l ls → (not (has s l.from) || has s l.to) ≡ true
  closed_at s [] l c i = absurd i
  closed_at s (k ∷ ls) l c i =
      let p = and_parts (not (has s k.from) || has s k.to) (closed s ls) c in
      ⊎_elim (λ e. subst (λ (z : Link A). (not (has s z.from) || has s z.to) ≡ true) (sym e) p.0) (λ j. closed_at s ls l p.1 j) i

  -- a path does not lead out of them
  closed_keeps : (s : List (Port A)) (ls : List (Link A)) → closed s ls ≡ true → {x y : Port A} → Path ls x y → has s x ≡ true → has s y ≡ true
  closed_keeps s ls c here h = h
  closed_keeps s ls c (onward {x = x} {y = z} l w) h =
      closed_keeps s ls c w (go (has s x) h (closed_at s ls (record { from = x; to = z }) c l))
    where
      go : (b : Bool) → b ≡ true → (not b || has s z) ≡ true → has s z ≡ true
      go true e q = q
      go false e q = absurd (true≢false (sym e))

  -- no path leads to a port that is not reached, once no link leads out of those that are
  pub not_found : (ls : List (Link A)) (x : Port A) (n : ℕ) (y : Port A) → has (reached n ls (x ∷ [])) x ≡ true → closed (reached n ls (x ∷ [])) ls ≡ true → has (reached n ls (x ∷ [])) y ≡ false → ¬ Path ls x y
  not_found ls x n y a c b w = true≢false (sym (closed_keeps (reached n ls (x ∷ [])) ls c w a) ∙ b)
