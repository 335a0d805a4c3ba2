use Rattle.std.proofs.Common.{◌≡◌, [], refl, subst}
use Rattle.wf_message.specs.Endings.{end_by}
use Rattle.wf_stage.specs.Promises.{Obeys}
use Rattle.wf_stage.specs.Families.{either}
use Rattle.wf_stage.proofs.TakenWords.{first_takes, other_takes, some_takes, is_taken}
use Rattle.wf_stage.proofs.family.EitherCommands.obey.Goals as goal

pub returns-in-Usage-clause-obeys : goal.returns-in-Usage-clause-obeys
returns-in-Usage-clause-obeys g c d h =
    let idle = c.obey.ensures.idle c.in-Usage.is in
    let t = other_takes _ _ d (c.obey.ensures.taken.0 c.in-Usage.is) h in
    let both = either g.A.Commands.family g.B.Commands.family in
    subst (λ e. Obeys g.H.Shelf.files g.H.Shelf.readings g.H.Shelf.faults g.H.Shelf.at_last g.O.Sink.put_bytes g.O.Sink.faults g.O.Sink.at_last (both.files_of e) [] (λ f. both.Does f e) c.args.shelf.now c.obey-in-Usage.new.shelf c.args.out.now c.obey-in-Usage.new.out (end_by c.obey-in-Usage.result)) t.2
    (subst (λ x. Obeys g.H.Shelf.files g.H.Shelf.readings g.H.Shelf.faults g.H.Shelf.at_last g.O.Sink.put_bytes g.O.Sink.faults g.O.Sink.at_last (g.B.Commands.family.files_of t.0) [] (λ f. g.B.Commands.family.Does f t.0) x c.obey-in-Usage.new.shelf c.args.out.now c.obey-in-Usage.new.out (end_by c.obey-in-Usage.result)) idle.0
    (subst (λ x. Obeys g.H.Shelf.files g.H.Shelf.readings g.H.Shelf.faults g.H.Shelf.at_last g.O.Sink.put_bytes g.O.Sink.faults g.O.Sink.at_last (g.B.Commands.family.files_of t.0) [] (λ f. g.B.Commands.family.Does f t.0) c.obey.new.shelf c.obey-in-Usage.new.shelf x c.obey-in-Usage.new.out (end_by c.obey-in-Usage.result)) idle.1
    (c.obey-in-Usage.ensures.obeys t.0 t.1)))

pub returns-in_default : goal.returns-in_default
returns-in_default g c =
    let both = either g.A.Commands.family g.B.Commands.family in
    let taken = is_taken c.in_default.not-Usage c.obey.ensures.taken.1 in
    record {
      taken = (λ u. absurd (c.in_default.not-Usage u), λ n. absurd (some_takes _ _ taken n));
      idle = λ u. absurd (c.in_default.not-Usage u);
      obeys = λ d h. let t = first_takes _ _ d taken h in
          subst (λ e. Obeys g.H.Shelf.files g.H.Shelf.readings g.H.Shelf.faults g.H.Shelf.at_last g.O.Sink.put_bytes g.O.Sink.faults g.O.Sink.at_last (both.files_of e) [] (λ f. both.Does f e) c.args.shelf.now c.obey.new.shelf c.args.out.now c.obey.new.out (end_by c.obey.result)) t.2 (c.obey.ensures.obeys t.0 t.1);
      untouched = λ d h w. let t = first_takes _ _ d taken h in
          subst (λ e. both.PutsNothingWanting e → (g.O.Sink.put_bytes c.obey.new.out ≡ g.O.Sink.put_bytes c.args.out.now) × (g.O.Sink.faults c.obey.new.out ≡ g.O.Sink.faults c.args.out.now)) t.2 (c.obey.ensures.untouched t.0 t.1 w);
    }
