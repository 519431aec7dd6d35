-- Laws on tests that codes proves, passed on to the layer above, which stands on the bus alone.
-- Assumes nothing.
pub use Rattle.codes.proofs.Tests.{chosen}
