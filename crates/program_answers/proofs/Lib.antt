mod Names
mod VoteReading
