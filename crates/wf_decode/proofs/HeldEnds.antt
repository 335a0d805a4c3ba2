-- The end of a label stays where its legs are copied.
use Rattle.std.proofs.Common.{◌≡◌, ℕ, ◌≤◌, List, length, take, sym, subst, arith}
use Rattle.wf_model.specs.declared.numbers.Side.{Side}
use Rattle.wf_model.specs.declared.numbers.Side.TheVariants.{Input, Output}
use Rattle.wf_model.specs.View.{View}
use Rattle.wf_model.specs.Reach.{Step}
use Rattle.label_model.specs.Labels.{Label, IsLabel, label_bits}
use Rattle.wf_vlabel.specs.Seen.{ViewLabelSeen, IsLabelOfView}
use Rattle.wf_decode.specs.declared.leg.Leg.{Leg as LegHeld}
use Rattle.wf_decode.specs.declared.decision.ends.End.{End}
use Rattle.wf_decode.specs.declared.decision.ends.End.TheVariants.{Hidden, Nowhere, At}
use Rattle.wf_decode.specs.declared.decision.ends.ModulePort.{ModulePort}
use Rattle.wf_decode.specs.HeldWays.{AreRowsUp, AreColumnsDown, AreWaysOf}
use Rattle.wf_decode.specs.Ends.{AreLegsAt, IsEndOn}
use Rattle.wf_decode.specs.HeldEnds.{HeldEndSeen, FitsIn, AreAlikeAt, IsHeldEnd}

-- where an end has its legs, it has them in a list that begins alike
pub end_kept : (side : Side) (l : ViewLabelSeen) (u : View) (x : Label) (e : End) (from to : List LegHeld) → AreAlikeAt e from to → IsEndOn side l u x e from → IsEndOn side l u x e to
end_kept Input l u x Hidden from to alike h = h
end_kept Input l u x Nowhere from to alike h = h
end_kept Input l u x (At n i) from to alike h = record {
  address = h.address;
  consumed = h.consumed;
  shown = h.shown;
  room = alike.1;
  in_range = h.in_range;
  legs_at = subst (λ z. AreLegsAt l u h.address i.module.0 z) (sym alike.0) h.legs_at;
}
end_kept Output l u x Hidden from to alike h = h
end_kept Output l u x Nowhere from to alike h = h
end_kept Output l u x (At n o) from to alike h = record {
  address = h.address;
  produced = h.produced;
  shown = h.shown;
  room = alike.1;
  in_range = h.in_range;
  legs_at = subst (λ z. AreLegsAt l u h.address o.module.0 z) (sym alike.0) h.legs_at;
}

-- the legs of the end of a label stand among those that are held
pub end_fits : (side : Side) (l : ViewLabelSeen) (u : View) (x : Label) (e : End) (legs : List LegHeld) → IsEndOn side l u x e legs → FitsIn e (length legs)
end_fits Input l u x Hidden legs h = tt
end_fits Input l u x Nowhere legs h = tt
end_fits Input l u x (At n i) legs h = h.room
end_fits Output l u x Hidden legs h = tt
end_fits Output l u x Nowhere legs h = tt
end_fits Output l u x (At n o) legs h = h.room

-- and among more of them
pub fits_more : (e : End) (k n : ℕ) → FitsIn e k → k ≤ n → FitsIn e n
fits_more Hidden k n fits more = tt
fits_more Nowhere k n fits more = tt
fits_more (At m i) k n fits more = omega arith

-- so has the end of a label that was read
pub held_kept : (side : Side) (l : ViewLabelSeen) (h k : HeldEndSeen) (to : List LegHeld) → k ≡ h → IsHeldEnd l side h → AreAlikeAt h.end h.legs to → (u : View) (x : Label) → IsLabelOfView l u → IsLabel l.grammar x → h.bits ≡ label_bits x → IsEndOn side l u x k.end to
held_kept side l h k to same held alike u x of label bits =
    subst (λ (z : HeldEndSeen). IsEndOn side l u x z.end to) (sym same) (end_kept side l u x h.end h.legs to alike (held.ends u x of label bits))

-- the legs of the end of a label are those of an address
pub end_legs : (side : Side) (l : ViewLabelSeen) (u : View) (x : Label) (n : ℕ) (i : ModulePort) (legs : List LegHeld) → IsEndOn side l u x (At n i) legs → (a : List Step) × AreLegsAt l u a i.module.0 (take n legs)
end_legs Input l u x n i legs h = (h.address, h.legs_at)
end_legs Output l u x n i legs h = (h.address, h.legs_at)

-- where an end has its ways, it has them with legs that begin alike
ways_kept : (side : Side) (l : ViewLabelSeen) (e : End) (from to : List LegHeld) (ways : List ℕ) → AreAlikeAt e from to → AreWaysOf side l e from ways → AreWaysOf side l e to ways
ways_kept Input l Hidden from to ways alike h = h
ways_kept Input l Nowhere from to ways alike h = h
ways_kept Input l (At n i) from to ways alike h = subst (λ z. AreRowsUp l z i.module.0 i.port.0 ways) (sym alike.0) h
ways_kept Output l Hidden from to ways alike h = h
ways_kept Output l Nowhere from to ways alike h = h
ways_kept Output l (At n o) from to ways alike h = subst (λ z. AreColumnsDown l z o.module.0 o.port.0 ways) (sym alike.0) h

-- so has the end of a label that was read
pub held_ways : (side : Side) (l : ViewLabelSeen) (h k : HeldEndSeen) (to : List LegHeld) (ways : List ℕ) → k ≡ h → ways ≡ k.ways → IsHeldEnd l side h → AreAlikeAt h.end h.legs to → AreWaysOf side l k.end to ways
held_ways side l h k to ways same is held alike =
    subst (AreWaysOf side l k.end to) (sym is) (subst (λ (z : HeldEndSeen). AreWaysOf side l z.end to z.ways) (sym same) (ways_kept side l h.end h.legs to h.ways alike held.ways))
