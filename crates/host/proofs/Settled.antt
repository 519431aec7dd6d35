-- What each exported call states has one result: both results are of the one outcome.
-- Assumes nothing.
use mathlib.Core.Path.{◌∙◌, sym, ap}
use Rattle.trace.specs.Run.{Ran}
use Rattle.picture.specs.Draw.{Drawn}
use Rattle.host.specs.Record.{RecordReply}
use Rattle.host.specs.List.{ListReply}
use Rattle.host.specs.Compare.{CompareReply}
use Rattle.host.specs.Settled.{Settled}

pub settled : Settled
settled = record {
  ssd1815b_record = λ bytes at a b p q. ap (λ (o : RecordReply). (o.number, o.kind, o.next)) (p ∙ sym q);
  ssd1815b_run = λ state memory bytes a b p q. ap (λ (o : Ran). (o.stop.number, o.stop.offset, o.stop.count, o.state, o.memory)) (p ∙ sym q);
  ssd1815b_draw = λ state memory frame a b p q. ap (λ (o : Drawn). (o.number, o.frame)) (p ∙ sym q);
  ssd1815b_list = λ number offset frame text a b p q. ap (λ (o : ListReply). (o.number, o.size, o.text)) (p ∙ sym q);
  ssd1815b_compare_frames = λ first second list a b p q. ap (λ (o : CompareReply). (o.number, o.count, o.list)) (p ∙ sym q);
  ssd1815b_compare_memories = λ first second list a b p q. ap (λ (o : CompareReply). (o.number, o.count, o.list)) (p ∙ sym q);
}
