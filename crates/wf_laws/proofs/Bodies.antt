-- Paths in one body: none leads from an output of a position back to an input of it.
use Rattle.std.proofs.Common.{◌≡◌, ℕ, ◌+◌, ◌⊎◌, ◌++◌, map, Option, Some, None, refl, sym, ap, ◌∙◌, subst, inl, inr, ⊎_elim}
use Rattle.wf_model.specs.Lists.{IsIn, Walk, here, onward}
use Rattle.wf_model.specs.Grammar.{Grammar, Assignment, Edge, production_at, body_of}
use Rattle.wf_model.specs.WellFormed.{IsWellFormedBody, IsFollowedBy}
use Rattle.wf_model.specs.declared.numbers.Side.TheVariants.{Input, Output}
use Rattle.wf_model.specs.Links.{Port, Link, input, output, edge_link, entry_links, exit_links, wiring, place_links, body_links, IsLinked, Path}
use Rattle.wf_model.proofs.Lists.{in_append_cases, in_map_from}
use Rattle.wf_model.proofs.Level.{in_entry_links, in_exit_links, pair_links_from, place_links_from}
use Rattle.wf_laws.specs.NoReturn.{NoReturnLaw}

-- the four kinds of links of a body
abbrev pub Kinds : Grammar → ℕ → Port (Option ℕ) → Port (Option ℕ) → Type 0
Kinds g p x y =
    ((e : Edge) × IsIn e (production_at g p).edges × (x ≡ output (Some e.from.position) e.from.port) × (y ≡ input (Some e.to.position) e.to.port)) ⊎
    (((h : ℕ) × (x ≡ input None h)) ⊎
    (((h : ℕ) × (y ≡ output None h) × (x.side ≡ Output)) ⊎
    ((k : ℕ) × (i : ℕ) × (o : ℕ) × (x ≡ input (Some k) i) × (y ≡ output (Some k) o))))

pub kinds : (g : Grammar) (d : Assignment) (p : ℕ) (x y : Port (Option ℕ)) → IsLinked (body_links g d p) x y → Kinds g p x y
kinds g d p x y h =
    let r = production_at g p in
    let l : Link (Option ℕ) = record { from = x; to = y } in
    ⊎_elim
    (λ w. ⊎_elim
    (λ a. let e = in_map_from edge_link l r.edges a in inl (e.0, e.1, ap (λ (z : Link (Option ℕ)). z.from) e.2, ap (λ (z : Link (Option ℕ)). z.to) e.2))
    (λ b. ⊎_elim
    (λ a. let e = in_entry_links l 0 r.entries a in inr (inl (e.2, ap (λ (z : Link (Option ℕ)). z.from) e.4)))
    (λ a. let e = in_exit_links l 0 r.exits a in inr (inr (inl (e.2, ap (λ (z : Link (Option ℕ)). z.to) e.4, ap (λ (z : Link (Option ℕ)). z.from.side) e.4))))
    (in_append_cases l (entry_links 0 r.entries) (exit_links 0 r.exits) b))
    (in_append_cases l (map edge_link r.edges) (entry_links 0 r.entries ++ exit_links 0 r.exits) w))
    (λ a.
    let q = place_links_from g d l 0 (body_of g p) a in
    let w = pair_links_from g d q.1 (Some (0 + q.0)) l q.3 in
    inr (inr (inr (0 + q.0, w.0, w.1, ap (λ (z : Link (Option ℕ)). z.from) w.5, ap (λ (z : Link (Option ℕ)). z.to) w.5))))
    (in_append_cases l (wiring g p) (place_links g d 0 (body_of g p)) h)

module _ (g : Grammar) (d : Assignment) (p : ℕ) where
  nothing_after : {x y : Port (Option ℕ)} → Walk (IsLinked (body_links g d p)) x y → (h k j : ℕ) → x ≡ output None h → y ≡ input (Some k) j → ⊥
  nothing_after here h k j ex ey = let e : Output ≡ Input = ap (λ (z : Port (Option ℕ)). z.side) (sym ex ∙ ey) in (cc)
  nothing_after (onward {x = x} {y = y} l w) h k j ex ey =
      ⊎_elim (λ a. let e : None ≡ Some a.0.from.position = ap (λ (z : Port (Option ℕ)). z.owner) (sym ex ∙ a.2) in (cc))
      (λ b. ⊎_elim (λ a. let e : Output ≡ Input = ap (λ (z : Port (Option ℕ)). z.side) (sym ex ∙ a.1) in (cc))
      (λ b. ⊎_elim (λ a. nothing_after w a.0 k j a.1 ey)
      (λ a. let e : Output ≡ Input = ap (λ (z : Port (Option ℕ)). z.side) (sym ex ∙ a.3) in (cc)) b) b)
      (kinds g d p x y l)

  mutual
    from_output : {x y : Port (Option ℕ)} → Walk (IsLinked (body_links g d p)) x y → (a i k j : ℕ) → x ≡ output (Some a) i → y ≡ input (Some k) j → (b : ℕ) × IsFollowedBy g p a b × Walk (IsFollowedBy g p) b k
    from_output here a i k j ex ey = let e : Output ≡ Input = ap (λ (z : Port (Option ℕ)). z.side) (sym ex ∙ ey) in absurd (cc)
    from_output (onward {x = x} {y = y} l w) a i k j ex ey =
        ⊎_elim
        (λ c. let e : Some c.0.from.position ≡ Some a = ap (λ (z : Port (Option ℕ)). z.owner) (sym c.2 ∙ ex) in
        let e' : c.0.from.position ≡ a = cc in
        (c.0.to.position, (c.0, c.1, e', refl), from_input w c.0.to.position c.0.to.port k j c.3 ey))
        (λ b. ⊎_elim (λ c. let e : Output ≡ Input = ap (λ (z : Port (Option ℕ)). z.side) (sym ex ∙ c.1) in absurd (cc))
        (λ b. ⊎_elim (λ c. absurd (nothing_after w c.0 k j c.1 ey))
        (λ c. let e : Output ≡ Input = ap (λ (z : Port (Option ℕ)). z.side) (sym ex ∙ c.3) in absurd (cc)) b) b)
        (kinds g d p x y l)

    from_input : {x y : Port (Option ℕ)} → Walk (IsLinked (body_links g d p)) x y → (a i k j : ℕ) → x ≡ input (Some a) i → y ≡ input (Some k) j → Walk (IsFollowedBy g p) a k
    from_input here a i k j ex ey = let e : Some a ≡ Some k = ap (λ (z : Port (Option ℕ)). z.owner) (sym ex ∙ ey) in let e' : a ≡ k = cc in subst (λ z. Walk (IsFollowedBy g p) a z) e' here
    from_input (onward {x = x} {y = y} l w) a i k j ex ey =
        ⊎_elim
        (λ c. let e : Output ≡ Input = ap (λ (z : Port (Option ℕ)). z.side) (sym c.2 ∙ ex) in absurd (cc))
        (λ b. ⊎_elim (λ c. let e : Some a ≡ None = ap (λ (z : Port (Option ℕ)). z.owner) (sym ex ∙ c.1) in absurd (cc))
        (λ b. ⊎_elim (λ c. let e : Output ≡ Input = sym c.2 ∙ ap (λ (z : Port (Option ℕ)). z.side) ex in absurd (cc))
        (λ c. let e : Some c.0 ≡ Some a = ap (λ (z : Port (Option ℕ)). z.owner) (sym c.3 ∙ ex) in
        let e' : c.0 ≡ a = cc in
        let f = from_output w c.0 c.2 k j c.4 ey in
        subst (λ z. Walk (IsFollowedBy g p) z k) e' (onward f.1 f.2)) b) b)
        (kinds g d p x y l)

  pub no_return : IsWellFormedBody g p → (k j i : ℕ) → Path (body_links g d p) (output (Some k) j) (input (Some k) i) → ⊥
  no_return wf k j i w = let f = from_output w k j k i refl refl in wf.acyclic k f.0 f.1 f.2

pub no_return_law : NoReturnLaw
no_return_law g d p wf k j i w = no_return g d p wf k j i w
