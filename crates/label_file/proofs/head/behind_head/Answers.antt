use Rattle.std.proofs.Common.{None, Some, true, false, codes, refl, sym, arith, true≢false}
use Rattle.std.proofs.lemmas.Bool.Decides.{Decides-eqb}
use Rattle.std.proofs.lemmas.Slice.Eq.{strip_prefix_is}
use Rattle.label_model.specs.Files.{other_start}
use Rattle.label_file.proofs.HeadReadings.{among_Decides, too_short, head_parts, digest_length, other_found}
use Rattle.label_file.proofs.head.behind_head.Goals as goal

pub returns-in_default-clause-fault : goal.returns-in_default-clause-fault
returns-in_default-clause-fault c = λ g. other_start (strip_prefix_is Decides-eqb c.args.bytes.now (codes "WFL1") None c.in_default.ensures.cases)

pub returns-in_default-split_first_chunk-clause-fault : goal.returns-in_default-split_first_chunk-clause-fault
returns-in_default-split_first_chunk-clause-fault c = λ g.
    let start = strip_prefix_is Decides-eqb c.args.bytes.now (codes "WFL1") (Some c.in-Some.behind) c.in-Some.ensures.cases in
    too_short c.args.bytes.now c.in-Some.behind.now start c.in_default-split_first_chunk.ensures.cases g c.args.digests.now

pub returns-then-not-contains-clause-fault : goal.returns-then-not-contains-clause-fault
returns-then-not-contains-clause-fault c = λ g.
    let start = strip_prefix_is Decides-eqb c.args.bytes.now (codes "WFL1") (Some c.in-Some.behind) c.in-Some.ensures.cases in
    let parts = c.in-Some-split_first_chunk.ensures.cases in
    let among = among_Decides c.args.digests.now c.in-Some-split_first_chunk.found.now false c.if-not-contains.ensures.value in
    other_found c.args.bytes.now c.in-Some.behind.now start c.in-Some-split_first_chunk.found.now c.in-Some-split_first_chunk.rest.now parts.0 parts.1 (omega (arith, parts.2)) g c.args.digests.now
    (λ i. true≢false (sym (among.1 i)))

pub returns-clause-head : goal.returns-clause-head
returns-clause-head c =
    let start = strip_prefix_is Decides-eqb c.args.bytes.now (codes "WFL1") (Some c.in-Some.behind) c.in-Some.ensures.cases in
    let parts = c.in-Some-split_first_chunk.ensures.cases in
    let found = c.in-Some-split_first_chunk.found.now in
    let among = among_Decides c.args.digests.now found true c.if-not-contains.ensures.value in (
      found,
      among.0 refl,
      digest_length c.args.bytes.now c.in-Some.behind.now start found parts.0 (omega (arith, parts.2)),
      head_parts c.args.bytes.now c.in-Some.behind.now start found c.in-Some-split_first_chunk.rest.now parts.0 parts.1,
    )
