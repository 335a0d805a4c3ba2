-- When one line more is right.
use Rattle.std.proofs.Common.{◌≡◌, ℕ, List, [], ◌∷◌, ◌++◌, drop, flat_map, get_or, refl, sym, ap, ◌∙◌, subst}
use Rattle.std.proofs.lemmas.Option.{same_Some}
use Rattle.wf_model.specs.Lists.{IsIn, Walk}
use Rattle.wf_model.specs.Grammar.{Grammar, Assignment}
use Rattle.wf_model.specs.WellFormed.{IsWellFormed}
use Rattle.wf_model.specs.View.{View}
use Rattle.wf_model.specs.declared.event.Event.{Event}
use Rattle.wf_model.specs.Run.{Instance, IsRun}
use Rattle.wf_model.specs.Links.{Port, input}
use Rattle.wf_model.specs.Items.{Item, items, IsVisible}
use Rattle.wf_model.proofs.ItemNames.{item_of_name}
use Rattle.chain_model.specs.Chains.{IsEntry, LeadsThrough, ChainStep, IsStepFrom, StepsLead, Consumes}
use Rattle.chain_model.proofs.OneInstance.{one_end, entry_once, no_entry, one_seen}
use Rattle.wf_reason.specs.declared.turn.Turn.TheVariants.{Item as ItemTurn, Instance as ViaTurn}
use Rattle.wf_reason.specs.ChainLines.{ChainLine, ItemLine, ViaLine, next_turn, turn_behind, lines_of_step, lines_of}
use Rattle.wf_reason.specs.Right.{LeadToItem, LeadToInstance, AreRight, none, to_item, to_instance, AreOfChain}
use Rattle.wf_reason.proofs.LineLists.{HasLast, empty, last, has_last, last_same, not_empty, turn_further, turn_of_lines, via_not_item, lines_further, steps_further, steps_before}

pub same_item : (a b : List ℕ) → ◌≡◌ {A = ChainLine} (ItemLine a) (ItemLine b) → a ≡ b
same_item a b e = cc

same_via : (a b : List ℕ) → ◌≡◌ {A = ChainLine} (ViaLine a) (ViaLine b) → a ≡ b
same_via a b e = cc

module _ (g : Grammar) (u : View) (d : Assignment) (m : ℕ) (events : List Event) where
  -- an item that leads through an instance is consumed by it
  pub consumed_through : (x y : Item) (n : Instance) → LeadsThrough g u d m events x n y → Consumes g u m events x n
  consumed_through x y n h = record { seen = h.seen; not_open = h.not_open; from = h.from; i = h.i; consumed = h.consumed; entries = h.entries; input_there = h.input_there }

  -- one instance alone consumes an item
  pub consumed_once : IsRun g m events → (x : Item) (n k : Instance) → Consumes g u m events x n → Consumes g u m events x k → n ≡ k
  consumed_once run x n k a b =
      let from : a.from ≡ b.from = same_Some a.from b.from (sym a.consumed ∙ b.consumed) in
      let ports : input n.name a.i ≡ input k.name b.i = one_end (entry_once g u m events run) (no_entry g u m events run n a.seen a.not_open a.i) (no_entry g u m events run k b.seen b.not_open b.i)
      a.entries (subst (λ z. Walk (IsEntry g u m events) z (input k.name b.i)) (sym from) b.entries) in
      one_seen g u m events run n k a.seen b.seen (ap (λ (z : Port (List ℕ)). z.owner) ports)

  -- behind lines that lead to an item it is the turn of an instance, and behind those that lead to an instance that of an item
  pub item_turn : (lines : List ChainLine) (y : Item) → LeadToItem g u d m events lines y → turn_behind ItemTurn lines ≡ ViaTurn
  item_turn lines y h = ap (turn_behind ItemTurn) h.are ∙ turn_of_lines h.first h.steps

  pub instance_turn : (lines : List ChainLine) (n : Instance) → LeadToInstance g u d m events lines n → turn_behind ItemTurn lines ≡ ItemTurn
  instance_turn lines n h = ap (turn_behind ItemTurn) h.are ∙ (turn_further ItemTurn h.before (ViaLine n.name) ∙ ap next_turn (item_turn h.before h.item h.lead))

  -- the line of an item that is visible leads to it
  pub first_leads : (x : Item) → IsIn x (items g m events) → IsVisible g u m events x → LeadToItem g u d m events (ItemLine x.name ∷ []) x
  first_leads x there visible = record { first = x; steps = []; there = there; visible = visible; steps_lead = refl; are = refl }

  -- a line names an instance that consumes the item before it
  pub instance_leads : (lines : List ChainLine) (y : Item) (n : Instance) → LeadToItem g u d m events lines y → Consumes g u m events y n → LeadToInstance g u d m events (lines ++ ViaLine n.name ∷ []) n
  instance_leads lines y n h q = record { before = lines; item = y; lead = h; consumed = q; are = refl }

  -- a line names an item to which the item before leads through the instance
  pub step_leads : (lines : List ChainLine) (y : Item) (s : ChainStep) → LeadToItem g u d m events lines y → IsStepFrom g u d m events y s → LeadToItem g u d m events ((lines ++ ViaLine s.via.name ∷ []) ++ ItemLine s.item.name ∷ []) s.item
  step_leads lines y s h q = record {
    first = h.first;
    steps = h.steps ++ s ∷ [];
    there = h.there;
    visible = h.visible;
    steps_lead = steps_further g u d m events h.first y h.steps s h.steps_lead q;
    are = ap (λ l. (l ++ ViaLine s.via.name ∷ []) ++ ItemLine s.item.name ∷ []) h.are ∙ sym (lines_further h.first h.steps s);
  }

  -- What right lines with a last one are: one item alone, which is visible; an item behind lines that lead to the instance of a step; or an instance behind lines that lead to an item
  pub data LastIs (before : List ChainLine) (l : ChainLine) : Type 0 where
    of_first : (x : Item) → IsIn x (items g m events) → IsVisible g u m events x → before ≡ [] → l ≡ ItemLine x.name → LastIs before l
    of_step : (lines : List ChainLine) (y : Item) (s : ChainStep) → LeadToItem g u d m events lines y → IsStepFrom g u d m events y s → before ≡ lines ++ ViaLine s.via.name ∷ [] → l ≡ ItemLine s.item.name → LastIs before l
    of_instance : (y : Item) (n : Instance) → LeadToItem g u d m events before y → Consumes g u m events y n → l ≡ ViaLine n.name → LastIs before l

  pub last_is : (before : List ChainLine) (l : ChainLine) → AreRight g u d m events (before ++ l ∷ []) → LastIs before l
  last_is before l (none e) = absurd (not_empty before l e)
  last_is before l (to_item y h) = go (has_last h.steps)
    where
      go : HasLast h.steps → LastIs before l
      go (empty e) =
          let r = last_same before [] l (ItemLine h.first.name) (h.are ∙ ap (lines_of h.first) e) in
          of_first h.first h.there h.visible r.0 r.1
      go (last steps s e) =
          let r = last_same before (lines_of h.first steps ++ ViaLine s.via.name ∷ []) l (ItemLine s.item.name) (h.are ∙ (ap (lines_of h.first) e ∙ lines_further h.first steps s)) in
          let p = steps_before g u d m events h.first y steps s (subst (λ z. StepsLead g u d m events h.first z y) e h.steps_lead) in
          of_step (lines_of h.first steps) p.0 s (record { first = h.first; steps = steps; there = h.there; visible = h.visible; steps_lead = p.1; are = refl }) p.2 r.0 r.1
  last_is before l (to_instance n h) =
      let r = last_same before h.before l (ViaLine n.name) h.are in
      of_instance h.item n (subst (λ z. LeadToItem g u d m events z h.item) (sym r.0) h.lead) h.consumed r.1

  -- so the lines before the last are right too
  pub right_before : (before : List ChainLine) (l : ChainLine) → AreRight g u d m events (before ++ l ∷ []) → AreRight g u d m events before
  right_before before l h = go (last_is before l h)
    where
      go : LastIs before l → AreRight g u d m events before
      go (of_first x there visible e f) = none e
      go (of_step lines y s lead step e f) = to_instance s.via (record { before = lines; item = y; lead = lead; consumed = consumed_through y s.item s.via step.through; are = e })
      go (of_instance y n lead consumed e) = to_item y lead

  -- the lines of a chain are right
  pub chain_right : (lines : List ChainLine) → AreOfChain g u d m events lines → AreRight g u d m events lines
  chain_right lines h = to_item h.to (record { first = h.from; steps = h.steps; there = h.chain.there; visible = h.chain.visible; steps_lead = h.chain.steps_lead; are = h.are })

  -- a first line that is right names a visible item
  pub first_right : (l : ChainLine) → AreRight g u d m events (l ∷ []) → (x : Item) × IsIn x (items g m events) × IsVisible g u m events x × (l ≡ ItemLine x.name)
  first_right l h = go (last_is [] l h)
    where
      go : LastIs [] l → (x : Item) × IsIn x (items g m events) × IsVisible g u m events x × (l ≡ ItemLine x.name)
      go (of_first x there visible e f) = (x, there, visible, f)
      go (of_step lines y s lead step e f) = absurd (not_empty lines (ViaLine s.via.name) (sym e))
      go (of_instance y n lead consumed e) = absurd (via_not_item (sym (item_turn [] y lead)))

  module _ (wf : IsWellFormed g) (run : IsRun g m events) where
    -- steps with the same lines lead to the same item
    same_end : (x y z : Item) (steps others : List ChainStep) → StepsLead g u d m events x steps y → StepsLead g u d m events x others z → flat_map lines_of_step steps ≡ flat_map lines_of_step others → y ≡ z
    same_end x y z [] [] a b e = sym a ∙ b
    same_end x y z [] (o ∷ others) a b e = absurd (cc)
    same_end x y z (s ∷ steps) [] a b e = absurd (cc)
    same_end x y z (s ∷ steps) (o ∷ others) a b e =
        let name : s.item.name ≡ o.item.name = same_item s.item.name o.item.name (ap (λ (l : List ChainLine). get_or l 1 (ViaLine [])) e) in
        let item : s.item ≡ o.item = item_of_name g m events wf run s.item o.item a.0.there b.0.there name in
        same_end s.item y z steps others a.1 (subst (λ w. StepsLead g u d m events w others z) (sym item) b.1) (ap (drop 2) e)

    -- lines lead to one item alone
    pub lead_once : (lines : List ChainLine) (y z : Item) → LeadToItem g u d m events lines y → LeadToItem g u d m events lines z → y ≡ z
    lead_once lines y z a b =
        let e : lines_of a.first a.steps ≡ lines_of b.first b.steps = sym a.are ∙ b.are in
        let name : a.first.name ≡ b.first.name = same_item a.first.name b.first.name (ap (λ (l : List ChainLine). get_or l 0 (ViaLine [])) e) in
        let item : a.first ≡ b.first = item_of_name g m events wf run a.first b.first a.there b.there name in
        same_end a.first y z a.steps b.steps a.steps_lead (subst (λ w. StepsLead g u d m events w b.steps z) (sym item) b.steps_lead) (ap (drop 1) e)

    -- a right line behind lines that lead to an item names an instance that consumes it
    pub instance_right : (lines : List ChainLine) (y : Item) (l : ChainLine) → LeadToItem g u d m events lines y → AreRight g u d m events (lines ++ l ∷ []) → (n : Instance) × Consumes g u m events y n × (l ≡ ViaLine n.name)
    instance_right lines y l lead h = go (last_is lines l h)
      where
        go : LastIs lines l → (n : Instance) × Consumes g u m events y n × (l ≡ ViaLine n.name)
        go (of_first x there visible e f) = absurd (via_not_item (sym (item_turn lines y lead) ∙ ap (turn_behind ItemTurn) e))
        go (of_step before z s other step e f) =
            absurd (via_not_item (sym (item_turn lines y lead) ∙ (ap (turn_behind ItemTurn) e ∙ (turn_further ItemTurn before (ViaLine s.via.name) ∙ ap next_turn (item_turn before z other)))))
        go (of_instance z n other consumed e) = (n, subst (λ w. Consumes g u m events w n) (lead_once lines z y other lead) consumed, e)

    -- a right line behind lines that lead to an instance names an item to which the item before leads through it
    pub step_right : (lines : List ChainLine) (y : Item) (n : Instance) (l : ChainLine) → LeadToItem g u d m events lines y → Consumes g u m events y n → AreRight g u d m events ((lines ++ ViaLine n.name ∷ []) ++ l ∷ []) →
        (t : Item) × IsStepFrom g u d m events y (record { via = n; item = t }) × (l ≡ ItemLine t.name)
    step_right lines y n l lead consumed h = go (last_is (lines ++ ViaLine n.name ∷ []) l h)
      where
        turn : turn_behind ItemTurn (lines ++ ViaLine n.name ∷ []) ≡ ItemTurn
        turn = instance_turn (lines ++ ViaLine n.name ∷ []) n (instance_leads lines y n lead consumed)

        go : LastIs (lines ++ ViaLine n.name ∷ []) l → (t : Item) × IsStepFrom g u d m events y (record { via = n; item = t }) × (l ≡ ItemLine t.name)
        go (of_first x there visible e f) = absurd (not_empty lines (ViaLine n.name) e)
        go (of_step before z s other step e f) =
            let r = last_same lines before (ViaLine n.name) (ViaLine s.via.name) e in
            let same : z ≡ y = lead_once lines z y (subst (λ w. LeadToItem g u d m events w z) (sym r.0) other) lead in
            let via : s.via ≡ n = one_seen g u m events run s.via n step.through.seen consumed.seen (sym (same_via n.name s.via.name r.1)) in
            (s.item, subst (λ w. IsStepFrom g u d m events y (record { via = w; item = s.item })) via (subst (λ w. IsStepFrom g u d m events w s) same step), f)
        go (of_instance z k other other_consumed e) = absurd (via_not_item (sym (item_turn (lines ++ ViaLine n.name ∷ []) z other) ∙ turn))
