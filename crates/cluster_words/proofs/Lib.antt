mod FateLemmas
