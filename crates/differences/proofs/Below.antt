-- For the code: what holds of the places passed.
pub use Rattle.bus.proofs.SideBySide.{one_more, xor_zero}
