-- `differences::run::RunEntry::put` meets its contract: a row that differs in one way throughout is one run.
use mathlib.Core.Path.{◌∙◌, sym}
use lib.Pointwise.{bytes_decides}
use native.Mathlib.Omega.{arith}
use Rattle.constants.specs.Sizes.{last_column, frame_entry_size}
use Rattle.differences.specs.Found.{run_bytes}
use Rattle.differences.specs.Laws.{run_bytes_sized, runs_found_none}
use Rattle.differences.proofs.PutEntries.{none, begin, turn, done}
use Rattle.differences.proofs.AlongRow.{runs_one}
use Rattle.differences.proofs.run.RunEntry.put.Goals as goal

pub returns-then-eq : goal.returns-then-eq
returns-then-eq c =
    let a = c.args in
    let same = (bytes_decides a.first.now a.second.now).0 (sym c.eq.ensures ∙ c.if-eq.true) in
    rw (same, runs_found_none a.row a.second.now) (none frame_entry_size run_bytes run_bytes_sized _ _)

pub put_at-requires : goal.put_at-requires
put_at-requires c =
    let a = c.args in
    let one = runs_one last_column a.row a.first.now a.second.now (c.one_run.ensures c.if-one_run.true) in
    (omega (arith, rw one at c.requires))

pub returns-then-one_run : goal.returns-then-one_run
returns-then-one_run c =
    let a = c.args in
    let one = runs_one last_column a.row a.first.now a.second.now (c.one_run.ensures c.if-one_run.true) in
    rw one (done _ _ _ (turn _ _ _ (begin frame_entry_size run_bytes run_bytes_sized a.list.now a.at _) c.put_at.ensures))
