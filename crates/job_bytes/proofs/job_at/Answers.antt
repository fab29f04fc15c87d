-- `job_bytes::job_at` meets its contract. Assumes nothing.
use Rattle.job_bytes.specs.Places.{edges_place, region_place}
use Rattle.job_bytes.proofs.Reading.{boxed, placed}
use Rattle.job_bytes.proofs.job_at.Goals as goal

pub returns : goal.returns
returns c =
    let n4 = c in
    let n3 = n4 in
    let r4 = n3 in
    let r3 = r4 in
    let r2 = r3 in
    let r1 = r2 in
    let e4 = r1 in
    let e3 = e4 in
    let e2 = e3 in
    let e1 = e2 in
    let w2 = e1 in
    let w1 = w2 in
    let n2 = w1 in
    let n1 = n2 in
    let k = n1 in
    let start = k in
    let bs = start.args.bytes.now in
    placed bs start.args.model _ _ _ _ _ _ _ _ _ _ start.requires.0 k.camera_of.ensures n1.half.ensures n2.half-2.ensures w1.word.ensures w2.word-2.ensures
    (boxed bs edges_place _ _ _ _ e1.float.ensures e2.float-2.ensures e3.float-3.ensures e4.float-4.ensures)
    (boxed bs region_place _ _ _ _ r1.float-5.ensures r2.float-6.ensures r3.float-7.ensures r4.float-8.ensures)
    n3.half-3.ensures n4.half-4.ensures c.half-5.ensures
