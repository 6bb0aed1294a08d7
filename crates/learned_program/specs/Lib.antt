pub mod LearnedProgram
