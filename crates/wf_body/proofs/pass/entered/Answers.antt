use Rattle.std.proofs.Common.{◌+◌, refl, map, sym, ap, subst, ◌∙◌, arith}
use Rattle.wf_model.specs.Grammar.{Production, production_at}
use Rattle.wf_model.specs.Meaning.{inner_of}
use Rattle.wf_body.proofs.Entering.{EnteredBelow, entered_none, entered_in, entered_out, entered_whole, held_at, few_entries, entry_small, whole_below}
use Rattle.wf_body.proofs.pass.entered.Goals as goal
use Rattle.wf_body.proofs.pass.entered.Goals.{then-to-k, else-to-k}

pub loop-h-init : goal.loop-h-init
loop-h-init c = entered_none c.args.k.0 (map inner_of c.entries-entries.result.now)

pub overflow_cast-h : goal.overflow_cast-h
overflow_cast-h c =
    let few = (few_entries c.args.g.now.core c.args.p.0 c.entries-entries.result.now c.production.ensures.formed c.requires (c.entries-entries.ensures ∙ ap (λ (r : Production). r.entries) c.production.ensures.core)).1 in
    let test = c.loop-h-test.true in
    omega arith

pub single-requires : goal.single-requires
single-requires c =
    let few = (few_entries c.args.g.now.core c.args.p.0 c.entries-entries.result.now c.production.ensures.formed c.requires (c.entries-entries.ensures ∙ ap (λ (r : Production). r.entries) c.production.ensures.core)).1 in
    let test = c.loop-h-test.true in
    omega arith

pub add-requires : goal.add-requires
add-requires c =
    let same = c.entries-entries.ensures ∙ ap (λ (r : Production). r.entries) c.production.ensures.core in
    rw c.if-to-k.array_long (entry_small c.args.g.now.core c.args.p.0 c.loop-h.h _ c.production.ensures.formed c.requires (held_at c.entries-entries.result.now c.loop-h.h _ (production_at c.args.g.now.core c.args.p.0).entries same c.loop-h-test.true))

pub loop-h-preserved : goal.loop-h-preserved
loop-h-preserved c =
    elim c.if-to-k.branch [
      | then-to-k w ↦ subst (EnteredBelow c.args.k.0 (c.loop-h.h + 1) (map inner_of c.entries-entries.result.now)) (sym w.words-is)
          (entered_in c.args.k.0 c.loop-h.h (map inner_of c.entries-entries.result.now) _ c.loop-h.words w.add.new.words w.single.result c.loop-h.invariant
          (held_at c.entries-entries.result.now c.loop-h.h _ (map inner_of c.entries-entries.result.now) refl c.loop-h-test.true) w.if-to-k.true w.add.ensures w.single.ensures.columns)
      | else-to-k w ↦ subst (EnteredBelow c.args.k.0 (c.loop-h.h + 1) (map inner_of c.entries-entries.result.now)) (sym w.words-is)
          (entered_out c.args.k.0 c.loop-h.h (map inner_of c.entries-entries.result.now) _ c.loop-h.words c.loop-h.invariant
          (held_at c.entries-entries.result.now c.loop-h.h _ (map inner_of c.entries-entries.result.now) refl c.loop-h-test.true) w.if-to-k.false)
    ]

pub returns : goal.returns
returns c =
    let same = c.entries-entries.ensures ∙ ap (λ (r : Production). r.entries) c.production.ensures.core in
    entered_whole c.args.k.0 c.loop-h.h (production_at c.args.g.now.core c.args.p.0).entries c.loop-h.words
    (subst (λ es. EnteredBelow c.args.k.0 c.loop-h.h es c.loop-h.words) same c.loop-h.invariant)
    (whole_below c.entries-entries.result.now (production_at c.args.g.now.core c.args.p.0).entries c.loop-h.h same c.loop-h-test.false)
