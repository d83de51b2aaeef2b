-- The logic of docs/TEXT-FORM.md, in reading order. Each definition names the statements that it states by their numbers there.
pub mod Syntax
pub mod Terms
pub mod Each
pub mod Fill
pub mod Occurrence
pub mod Rules
pub mod StepChecks
pub mod Structure
pub mod Derivation
pub mod Descent
-- What is computed: nothing in these has to be believed.
pub mod Equality
pub mod Judge
pub mod Reach
