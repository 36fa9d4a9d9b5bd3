pub mod ArenaLaws
