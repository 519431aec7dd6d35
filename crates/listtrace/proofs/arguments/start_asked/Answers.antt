-- `listtrace::arguments::start_asked` meets its contract: each test decides as the definition's does.
use mathlib.Core.Path.{◌≡◌, sym, ◌∙◌}
use mathlib.Core.Bool.{false≢true}
use native.Mathlib.Omega.{arith}
use Rattle.std.proofs.lemmas.Bool.Decides.{Decides-eqb}
use Rattle.std.proofs.lemmas.Slice.Eq.{slice_eq-Decides}
use Rattle.listtrace.specs.StartAsked.{upright_argument}
use Rattle.listtrace.proofs.StartAsked.{start_asked_lem}
use Rattle.listtrace.proofs.arguments.start_asked.Goals as goal
use Rattle.listtrace.proofs.arguments.start_asked.Goals.{else-count-eq2-via-then-count-eq2+else-eq, else-count-eq2-via-else-count-eq2}

pub returns-then-count-lt2 : goal.returns-then-count-lt2
returns-then-count-lt2 c = sym (start_asked_lem.none _ _ c.if-count-lt2.true)

pub returns-then-eq : goal.returns-then-eq
returns-then-eq c =
    let spelt : c.args.word.now ≡ upright_argument = (slice_eq-Decides Decides-eqb _ _ c.eq.result c.eq.ensures).0 c.if-eq.true ∙ c.as_slice.ensures in
    rw (c.if-count-eq2.true, spelt) (sym start_asked_lem.named)

pub returns : goal.returns
returns c =
    elim c.else-count-eq2.branch [
      | else-count-eq2-via-then-count-eq2+else-eq w ↦
          let differs : c.args.word.now ≡ upright_argument → ⊥ = λ e. false≢true (sym w.if-eq.false ∙ (slice_eq-Decides Decides-eqb _ _ w.eq.result w.eq.ensures).1 (e ∙ sym w.as_slice.ensures)) in
          rw w.if-count-eq2.true (sym (start_asked_lem.other _ differs))
      | else-count-eq2-via-else-count-eq2 w ↦ sym (start_asked_lem.more _ _ (omega (arith, c.if-count-lt2.false, w.if-count-eq2.false)))
    ]
