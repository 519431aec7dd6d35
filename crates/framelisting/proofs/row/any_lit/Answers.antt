-- `framelisting::row::any_lit` meets its contract: the bytes are seen together.
use Rattle.std.proofs.Common.{rules, ◌≡◌, fold, bit_or}
use Rattle.framelisting.proofs.AlongRow.{seen_together}
use Rattle.framelisting.proofs.row.any_lit.Goals as goal

pub returns : goal.returns
returns c =
    let seen : c.fold.result ≡ fold (λ seen place. bit_or seen place) 0 c.args.row.now = search rules in
    rw seen (seen_together c.args.row.now)
