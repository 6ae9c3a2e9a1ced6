-- Laws: the contract of an instruction, from what its step and its write-back tell. Pieces: what a write-back tells, by how the step ended.
pub mod Laws
pub mod Pieces
