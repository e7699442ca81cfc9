-- What a look is answered with, and where the part stands that it hands back.
pub mod Look
