-- Demand 3, and what it speaks of
pub mod Statement
pub mod Witness
pub mod FailuresAllow
pub mod HarmWitness
-- its companions: refusal 8 never comes; damage; what changes; the length of an exchange; the starred edges
pub mod Damage
pub mod Named
pub mod NamedWorked
pub mod Count
pub mod Edges
-- the proof, from lists and windows up
pub mod All
pub mod Cuts
pub mod Windows
pub mod Validity
pub mod Places
pub mod Reading
pub mod Hiding
pub mod Begin
pub mod Settling
pub mod Moving
pub mod Sectors
pub mod MoveRun
pub mod BaseMoves
