-- The text of a chain determines the chain.
use Rattle.std.proofs.Common.{◌≡◌, ℕ, List, [], ◌∷◌, ◌++◌, drop, flat_map, get_or, codes, refl, sym, ap, ◌∙◌, subst, inl, inr, ⊎_elim, arith, append_assoc}
use Rattle.std.proofs.lemmas.List.{append_cancel_left}
use Rattle.wf_model.specs.Lists.{IsIn}
use Rattle.wf_model.specs.Grammar.{Grammar, Assignment, body_of}
use Rattle.wf_model.specs.WellFormed.{IsWellFormed}
use Rattle.wf_model.specs.View.{View}
use Rattle.wf_model.specs.declared.event.Event.{Event}
use Rattle.wf_model.specs.declared.event.Event.TheVariants.{Start, Expand}
use Rattle.wf_model.specs.Run.{Instance, IsName, IsNameByte, made_by, Extends, IsRun, seen_in}
use Rattle.wf_model.specs.Items.{Item, items_by, items}
use Rattle.wf_model.proofs.Lists.{in_append_cases, in_map, in_flat_map_from}
use Rattle.wf_model.proofs.Runs.{run_state, named_names}
use Rattle.wf_model.proofs.ItemNames.{dotted_at, item_of_name}
use Rattle.label_model.proofs.TakenEvents.{taken}
use Rattle.label_model.proofs.NamesDiffer.{owned}
use Rattle.chain_model.specs.Chains.{ChainStep, StepsLead}
use Rattle.chain_model.specs.ChainText.{name_line, step_lines}
use Rattle.chain_model.specs.Laws.{ChainTextLaw}
use Rattle.chain_model.proofs.OneInstance.{one_seen}

-- a line has no end of a line within it
abbrev IsLine : List ℕ → Type 0
IsLine n = IsIn 10 n → ⊥

name_is_line : (n : List ℕ) → IsName n → IsLine n
name_is_line n h i = go (h.1 10 i)
  where
    go : IsNameByte 10 → ⊥
    go h = grind (arith, h)

item_is_line : (n p : List ℕ) → IsName n → IsName p → IsLine (n ++ 46 ∷ p)
item_is_line n p hn hp i = ⊎_elim (name_is_line n hn) (λ j. ⊎_elim (λ e. absurd (omega arith)) (name_is_line p hp) j) (in_append_cases 10 n (46 ∷ p) i)

-- what stands before the end of the first line, and what stands behind it, are told by the whole
cut_same : (a b c d : List ℕ) → IsLine a → IsLine c → a ++ 10 ∷ b ≡ c ++ 10 ∷ d → (a ≡ c) × (b ≡ d)
cut_same [] b [] d ha hc e = (refl, ap (drop 1) e)
cut_same [] b (y ∷ c) d ha hc e = absurd (hc (inl (ap (λ (l : List ℕ). get_or l 0 0) e)))
cut_same (x ∷ a) b [] d ha hc e = absurd (ha (inl (sym (ap (λ (l : List ℕ). get_or l 0 0) e))))
cut_same (x ∷ a) b (y ∷ c) d ha hc e =
    let r = cut_same a b c d (λ i. ha (inr i)) (λ i. hc (inr i)) (ap (drop 1) e) in
    let h : x ≡ y = ap (λ (l : List ℕ). get_or l 0 0) e in
    ((λ t. h t ∷ r.0 t), r.1)

line_cut : (t : Item) (rest : List ℕ) → name_line t ++ rest ≡ t.name ++ 10 ∷ rest
line_cut t rest = append_assoc t.name (codes "\n") rest

step_cut : (s : ChainStep) (rest : List ℕ) → step_lines s ++ rest ≡ codes "via " ++ (s.via.name ++ 10 ∷ (s.item.name ++ 10 ∷ rest))
step_cut s rest =
    append_assoc (codes "via ") (s.via.name ++ (codes "\n" ++ name_line s.item)) rest ∙
    ap (λ z. codes "via " ++ z) (append_assoc s.via.name (codes "\n" ++ name_line s.item) rest ∙ ap (λ z. s.via.name ++ 10 ∷ z) (line_cut s.item rest))

module _ (g : Grammar) (u : View) (d : Assignment) (wf : IsWellFormed g) (events : List Event) (run : IsRun g g.start events) where
  -- the names of the items and instances of a run are lines
  item_line : (t : Item) → IsIn t (items g g.start events) → IsLine t.name
  item_line t h =
      let r = in_flat_map_from (items_by g g.start) t events h in
      let k = taken g g.start events [] r.0 run r.1 in
      let o = owned g wf k.before r.0 k.extends t.name (in_map (λ (z : Item). z.name) t (items_by g g.start r.0) r.2) in
      subst IsLine (sym (o.dots ∙ dotted_at o.owner o.port)) (item_is_line o.owner o.port o.good o.short.0)

  seen_line : (n : Instance) → IsIn n (seen_in g u g.start events) → IsLine n.name
  seen_line n h =
      let r = in_flat_map_from (made_by g g.start) n events ((run_state g u g.start events run).seen_made n h) in
      let k = taken g g.start events [] r.0 run r.1 in
      name_is_line n.name (by_event k.before r.0 k.extends r.2)
    where
      by_event : (before : List Event) (e : Event) → Extends g g.start before e → IsIn n (made_by g g.start e) → IsName n.name
      by_event before (Start r) x (inl e) = subst (λ (z : Instance). IsName z.name) (sym e) x.1
      by_event before (Start r) x (inr e) = absurd e
      by_event before (Expand i p names) x j = x.good n.name (named_names n names (body_of g p) j)

  steps_same : (x y z : Item) (steps others : List ChainStep) → StepsLead g u d g.start events x steps y → StepsLead g u d g.start events x others z → flat_map step_lines steps ≡ flat_map step_lines others → steps ≡ others
  steps_same x y z [] [] a b e = refl
  steps_same x y z [] (o ∷ others) a b e = let first : 0 ≡ 118 = ap (λ (l : List ℕ). get_or l 0 0) e in absurd (omega (arith, first))
  steps_same x y z (s ∷ steps) [] a b e = let first : 118 ≡ 0 = ap (λ (l : List ℕ). get_or l 0 0) e in absurd (omega (arith, first))
  steps_same x y z (s ∷ steps) (o ∷ others) a b e =
      let s' = a.0.through.seen in
      let o' = b.0.through.seen in
      let p = cut_same s.via.name (s.item.name ++ 10 ∷ flat_map step_lines steps) o.via.name (o.item.name ++ 10 ∷ flat_map step_lines others) (seen_line s.via s') (seen_line o.via o')
      (append_cancel_left (codes "via ") _ _ (sym (step_cut s (flat_map step_lines steps)) ∙ (e ∙ step_cut o (flat_map step_lines others)))) in
      let q = cut_same s.item.name (flat_map step_lines steps) o.item.name (flat_map step_lines others) (item_line s.item a.0.there) (item_line o.item b.0.there) p.1 in
      let via : s.via ≡ o.via = one_seen g u g.start events run s.via o.via s' o' p.0 in
      let item : s.item ≡ o.item = item_of_name g g.start events wf run s.item o.item a.0.there b.0.there q.0 in
      let rest = steps_same s.item y z steps others a.1 (subst (λ w. StepsLead g u d g.start events w others z) (sym item) b.1) q.1 in
      λ k. record { via = via k; item = item k } ∷ rest k

pub chain_text_law : ChainTextLaw
chain_text_law g u d wf events run x y s t steps others a b e =
    let p = cut_same x.name (flat_map step_lines steps) s.name (flat_map step_lines others) (item_line g u d wf events run x a.there) (item_line g u d wf events run s b.there)
    (sym (line_cut x (flat_map step_lines steps)) ∙ (e ∙ line_cut s (flat_map step_lines others))) in
    let same : x ≡ s = item_of_name g g.start events wf run x s a.there b.there p.0 in
    (same, steps_same g u d wf events run x y t steps others a.steps_lead (subst (λ w. StepsLead g u d g.start events w others t) (sym same) b.steps_lead) p.1)
