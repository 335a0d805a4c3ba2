use Rattle.std.proofs.Common.{◌≡◌, ◌∙◌, ◌-◌, length, take, drop, sym, ap, subst, length-drop}
use Rattle.std.proofs.Math.Seq.{take-length}
use Rattle.std.specs.Option.{IfSome}
use Rattle.label_model.specs.Files.{IsFront}
use Rattle.label_file.specs.Layout.{entry_at_front}
use Rattle.label_file.specs.declared.front.Front.{Front}
use Rattle.label_file.proofs.EntryParts.{held_told, placed_same}
use Rattle.label_file.proofs.table.front_of.Goals as goal

pub returns-clause-placed : goal.returns-clause-placed
returns-clause-placed c =
    let k = c.args.key.now in
    let bytes = c.args.bytes.now in
    let all : take (length bytes - c.place.result) (drop c.place.result bytes) ≡ drop k.place bytes = ap (λ n. take n (drop c.place.result bytes)) (sym (length-drop c.place.result bytes)) ∙ (take-length (drop c.place.result bytes) ∙ ap (λ n. drop n bytes) c.place.ensures) in
    let front = subst (λ r. IfSome r (λ (f : Front). IsFront (entry_at_front f) (take (length bytes - c.place.result) (drop c.place.result bytes)) f.rest.now)) c.unwrap.ensures c.cut_front.ensures.some in
    placed_same bytes k.place k.padding _ _ _ c.requires.1 (subst (λ z. IsFront (entry_at_front c.unwrap.result) z c.unwrap.result.rest.now) all front)

pub returns-clause-held : goal.returns-clause-held
returns-clause-held c = held_told c.args.bytes.now c.args.key.now _ (returns-clause-placed c)
