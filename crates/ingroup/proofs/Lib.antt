-- The laws of the choice in a group, of the order by rank, and order 5.
pub mod InGroupLaws
pub mod RankLaws
pub mod Order5
