-- `bus::put::put_chunks` meets its contract: what is kept of so many chunks is put, and of the last one.
use mathlib.Core.Path.{◌≡◌, sym, ◌∙◌, ap}
use mathlib.Core.List.{[], ◌++◌, map}
use Prim.Native.Nat.{◌+◌, ◌-◌, ◌*◌, ◌/◌, ◌≤◌}
use native.Mathlib.Omega.{arith}
use lib.ListN.{length, get_or, take, drop, take-append-drop}
use lib.Seq.{take-add, take-take}
use Rattle.std.proofs.Common.{rules}
use Rattle.std.proofs.lemmas.List.{append-nil, places, take-map, drop-map, length-map}
use Rattle.std.proofs.lemmas.Slice.{take-put_mid}
use Rattle.bus.specs.Memory.{kept}
use Rattle.bus.specs.Pieces.{chunk}
use Rattle.bus.proofs.SideBySide.{chunk_at, length_part}
use Rattle.bus.proofs.put.put_chunks.Goals as goal

pub loop-i-preserved : goal.loop-i-preserved
loop-i-preserved c =
    let bytes = c.args.bytes.now in
    let keeps = kept c.args.page in
    let all = map keeps bytes in
    let i = c.loop-i.i in
    let at = i * chunk in
    let held = c.put_chunk.new.places in
    let count : length all ≡ length bytes = length-map bytes keeps in
    let whole : held ≡ take chunk (drop at all) =
    c.put_chunk.ensures ∙
    c.chunk_of.ensures ∙
    ap (λ l. map keeps l) (ap (λ l. get_or l i []) c.as_chunks.ensures.front ∙ chunk_at (length bytes / chunk) i bytes (omega (arith, c.as_chunks.ensures.front_len))) ∙
    sym (take-map keeps chunk (drop at bytes)) ∙
    ap (λ l. take chunk l) (sym (drop-map keeps at bytes)) in
    let long = ap length whole ∙ length_part all at chunk (omega (arith, count, c.as_chunks.ensures.front_len)) in
    let next : at + chunk ≡ (i + 1) * chunk = omega arith in
    take-put_mid at (at + chunk - at) c.loop-i.places held ((i + 1) * chunk) (omega (arith, long)) (omega (arith, c.as_chunks.ensures.front_len)) ∙
    ap (λ l. l ++ held) c.loop-i.invariant ∙
    ap (λ l. take at all ++ l) whole ∙
    sym (take-add at chunk all) ∙
    ap (λ k. take k all) next

pub returns-in-Some : goal.returns-in-Some
returns-in-Some c =
    let bytes = c.args.bytes.now in
    let keeps = kept c.args.page in
    let all = map keeps bytes in
    let put = c.loop-i.places in
    let last = length bytes - chunk in
    let done = c.loop-i.i * chunk in
    let held = c.put_chunk-in-Some.new.places in
    let before : last ≤ done = omega (arith, c.as_chunks.ensures.front_len) in
    let front : take last put ≡ take last all = sym (take-take last done put before) ∙ ap (λ l. take last l) c.loop-i.invariant ∙ take-take last done all before in
    let none : drop (length put - last) (drop last put) ≡ [] = search (rules, places) in
    ap (λ l. l ++ (held ++ drop (length put - last) (drop last put))) front ∙
    ap (λ l. take last all ++ (held ++ l)) none ∙
    ap (λ l. take last all ++ l) (append-nil held ∙ c.put_chunk-in-Some.ensures ∙ c.chunk_of-in-Some.ensures ∙ ap (λ l. map keeps l) c.in-Some.ensures.cases.1.same ∙ sym (drop-map keeps last bytes)) ∙
    take-append-drop last all
