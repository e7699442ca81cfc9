-- What reading rests on, for the theorems to cite.
pub mod Opening
pub mod Headers
pub mod Places
pub mod OneAnswer
